-- Replies that leave the value and what the store holds.
use Rattle.std.proofs.Common.{◌≡◌, ◌⊎◌, inl, inr, ℕ, List, [], ◌∷◌, Option, refl, sym, subst, arith}
use Rattle.std.specs.Prelude.{Contains}
use Rattle.ild_edges.specs.Gained.{AreHeld}
use Rattle.ild_edges.specs.Store.{Moment}
use Rattle.ild_edges.specs.Told.{IfTold}
use Rattle.ild_schema.specs.Value.{Value}
use Rattle.ild_script.specs.declared.reply.Reply.{Reply}
use Rattle.ild_script_session.specs.Session.{Due, idle}
use Rattle.ild_script_session.specs.Step.{AreCarried, Holds, IsExcused, IsWhole}
use Rattle.ild_script_session.proofs.Came.{none_came}
use Rattle.ild_script_meaning.specs.Lines.{typed_lines}
use Rattle.ild_run_standing.specs.Laws.{StillReplies}

holds_on : (m n : Moment) → n.blocks ≡ m.blocks → (bs : List (List ℕ)) → Holds m bs → Holds n bs
holds_on m n e bs all = subst (λ (o : Option (List (List ℕ))). IfTold o (AreHeld bs)) (sym e) all

one_on : (m n : Moment) → n.blocks ≡ m.blocks → (own : List (List ℕ)) (p : List ℕ × List (List ℕ)) → Contains own p.0 ⊎ Holds m p.1 → Contains own p.0 ⊎ Holds n p.1
one_on m n e own p (inl x) = inl x
one_on m n e own p (inr x) = inr (holds_on m n e p.1 x)

carried_on : (m n : Moment) → n.blocks ≡ m.blocks → (own : List (List ℕ)) (ps : List (List ℕ × List (List ℕ))) → AreCarried m own ps → AreCarried n own ps
carried_on m n e own [] all = tt
carried_on m n e own (p ∷ ps) all = (one_on m n e own p all.0, carried_on m n e own ps all.1)

pub still_replies : StillReplies
still_replies = λ w m n v d reply later same gets puts answered. record {
  answered = by m n v d reply answered;
  later = later;
  carries = λ c. record {
    kept = holds_on m n same ((typed_lines w).blocks v) c.kept;
    value = holds_on m n same ((typed_lines w).blocks v) c.value;
    places = carried_on m n same [] ((typed_lines w).places v) c.places;
  };
  stored = record { adds = none_came (λ b now. Contains d.adds b) m.blocks n.blocks same; whole = none_came (λ b now. IsWhole now (d.children b)) m.blocks n.blocks same };
  still = λ none. same;
  stays = tt;
  gets = gets;
  puts = puts;
  owed = omega arith;
} where
  by : (m n : Moment) (v : Value) (d : Due Value) (reply : Option Reply) → ((reply ≡ d.reply) × (idle v ≡ d.next)) ⊎ IsExcused m d.adds reply n n
      → ((reply ≡ d.reply) × (idle v ≡ d.next)) ⊎ (IsExcused m d.adds reply n n × (idle v ≡ idle v))
  by m n v d reply (inl due) = inl due
  by m n v d reply (inr excused) = inr (excused, refl)
