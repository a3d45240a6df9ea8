-- A reply that leaves the value and the store.
use Rattle.std.proofs.Common.{◌≡◌, ◌⊎◌, inl, inr, ℕ, List, [], ◌∷◌, Option, Some, None, refl, sym, ap, subst, arith}
use Rattle.std.specs.Prelude.{Contains}
use Rattle.std.specs.List.{AllByRecursion}
use Rattle.ild_data.specs.Spell.{id_of}
use Rattle.ild_edges.specs.Store.{Moment, block_at}
use Rattle.ild_edges.specs.Told.{BothTold, IfTold}
use Rattle.ild_script_meaning.specs.Lines.{Setting, no_places, read_reply, typed_lines}
use Rattle.ild_schema.specs.Value.{Value}
use Rattle.ild_script.specs.declared.reply.Reply.{Reply}
use Rattle.ild_script_session.specs.Session.{idle}
use Rattle.ild_script_session.specs.Step.{AreCarried, Holds, IsExcused, IsWhole}
use Rattle.ild_run_follow.specs.declared.kind.Tell.{Tell}
use Rattle.ild_run_reads.specs.Laws.{ReadsAreReplies}
use Rattle.ild_run_reads.specs.Replies.{asked}

-- ---- the store as before

holds_on : (m n : Moment) → n.blocks ≡ m.blocks → (bs : List (List ℕ)) → Holds m bs → Holds n bs
holds_on m n e bs all = subst (λ (o : Option (List (List ℕ))). IfTold o (λ held. AllByRecursion (λ b. block_at held (id_of b) ≡ Some b) bs)) (sym e) all

one_on : (m n : Moment) → n.blocks ≡ m.blocks → (own : List (List ℕ)) (p : List ℕ × List (List ℕ)) → Contains own p.0 ⊎ Holds m p.1 → Contains own p.0 ⊎ Holds n p.1
one_on m n e own p (inl x) = inl x
one_on m n e own p (inr x) = inr (holds_on m n e p.1 x)

carried_on : (m n : Moment) → n.blocks ≡ m.blocks → (own : List (List ℕ)) (ps : List (List ℕ × List (List ℕ))) → AreCarried m own ps → AreCarried n own ps
carried_on m n e own [] all = tt
carried_on m n e own (p ∷ ps) all = (one_on m n e own p all.0, carried_on m n e own ps all.1)

adds_none : (a b : Option (List (List ℕ))) → b ≡ a → BothTold a b (λ was now. (id b : List ℕ) → block_at now id ≡ Some b → (block_at was id ≡ Some b) ⊎ Contains [] b)
adds_none None b e = subst (λ (x : Option (List (List ℕ))). BothTold None x (λ was now. (id b : List ℕ) → block_at now id ≡ Some b → (block_at was id ≡ Some b) ⊎ Contains [] b)) (sym e) tt
adds_none (Some held) b e =
    subst (λ (x : Option (List (List ℕ))). BothTold (Some held) x (λ was now. (id b : List ℕ) → block_at now id ≡ Some b → (block_at was id ≡ Some b) ⊎ Contains [] b)) (sym e) (λ id c here. inl here)

whole_none : (a b : Option (List (List ℕ))) → b ≡ a → BothTold a b (λ was now. (id b : List ℕ) → block_at now id ≡ Some b → (block_at was id ≡ Some b) ⊎ IsWhole now (no_places b))
whole_none None b e = subst (λ (x : Option (List (List ℕ))). BothTold None x (λ was now. (id b : List ℕ) → block_at now id ≡ Some b → (block_at was id ≡ Some b) ⊎ IsWhole now (no_places b))) (sym e) tt
whole_none (Some held) b e =
    subst (λ (x : Option (List (List ℕ))). BothTold (Some held) x (λ was now. (id b : List ℕ) → block_at now id ≡ Some b → (block_at was id ≡ Some b) ⊎ IsWhole now (no_places b))) (sym e) (λ id c here. inl here)

-- ---- replies

pub reads_are_replies : ReadsAreReplies
reads_are_replies = λ h w view path tell m n reply t v a x r. record {
  answered = by w path tell m n reply v (r.answer w t v a x);
  later = r.only.later;
  carries = λ c. record {
    kept = holds_on m n r.only.blocks ((typed_lines w).blocks v) c.kept;
    value = holds_on m n r.only.blocks ((typed_lines w).blocks v) c.value;
    places = carried_on m n r.only.blocks [] ((typed_lines w).places v) c.places;
  };
  stored = record { adds = adds_none m.blocks n.blocks r.only.blocks; whole = whole_none m.blocks n.blocks r.only.blocks };
  still = λ none. r.only.blocks;
  stays = tt;
  gets = let own = r.gets w t v a x in omega (arith, own);
  puts = let own = r.only.puts in omega (arith, own);
  owed = omega arith;
} where
  by : (w : Setting) (path : List (List ℕ)) (tell : Tell) (m n : Moment) (reply : Reply) (v : Value) → (reply ≡ read_reply w (asked tell) path v) ⊎ IsExcused m [] (Some reply) n n
      → ((Some reply ≡ Some (read_reply w (asked tell) path v)) × (idle v ≡ idle v)) ⊎ (IsExcused m [] (Some reply) n n × (idle v ≡ idle v))
  by w path tell m n reply v (inl is) = inl (ap Some is, refl)
  by w path tell m n reply v (inr is) = inr (is, refl)
