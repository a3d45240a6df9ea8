-- Lines that ask nothing of a store.
use Rattle.std.proofs.Common.{◌≡◌, ◌⊎◌, inl, inr, ⊎_elim, ℕ, List, [], ◌++◌, Option, Some, None, refl, arith}
use Rattle.std.specs.Prelude.{Contains, IfSome, option_map}
use Rattle.std.specs.List.{AllByRecursion}
use Rattle.ild_data.specs.Data as D
use Rattle.ild_data.specs.Spell.{id_of}
use Rattle.ild_edges.specs.Store.{Moment, Keeps, block_at}
use Rattle.ild_edges.specs.Told.{BothTold, IfTold}
use Rattle.ild_edges.proofs.Held.{keeps_all}
use Rattle.ild_edges.proofs.Later.{Later-refl}
use Rattle.ild_schema.specs.Value.{Value}
use Rattle.ild_script_meaning.specs.Lines.{abort_due, begin_due, value_blocks}
use Rattle.ild_script_session.specs.Batch.{together}
use Rattle.ild_script_session.specs.Session.{Stage, Due, idle}
use Rattle.ild_script_session.specs.Step.{Gains, IsWhole, StaysTogether}
use Rattle.ild_script_batch.specs.Inside.{begun_at}
use Rattle.ild_script_batch.specs.Stages.{BatchesBegin, BatchesEnd, StagesStay}
use Rattle.ild_script_batch.proofs.Carrying.{carried_by}
use Rattle.ild_script_session.proofs.Came.{Came}

told_still : (P : List (List ℕ) → List (List ℕ) → Type 0) → ((held : List (List ℕ)) → P held held) → (a : Option (List (List ℕ))) → BothTold a a P
told_still P each None = tt
told_still P each (Some held) = each held

-- what is held without blocks of a batch's own
told_empty : (P : List (List ℕ) → List (List ℕ) → Type 0) → ((held : List (List ℕ)) → P held held) → (a : Option (List (List ℕ))) → BothTold a (option_map (λ held. [] ++ held) a) P
told_empty P each None = tt
told_empty P each (Some held) = each held

came_still : (New : List ℕ → List (List ℕ) → Type 0) (held : List (List ℕ)) → Came New held held
came_still New held id b here = inl here

gains_still : (m : Moment) (d : Due Value) → Gains m d m
gains_still m d = record {
  adds = told_still (Came (λ b held. Contains d.adds b)) (came_still (λ b held. Contains d.adds b)) m.blocks;
  whole = told_still (Came (λ b held. IsWhole held (d.children b))) (came_still (λ b held. IsWhole held (d.children b))) m.blocks;
}

stays_still : (m : Moment) (s : Stage Value) (d : Due Value) (o : Option Value) → IfSome o (λ v. StaysTogether m s d m s)
stays_still m s d None = tt
stays_still m s d (Some v) = record { keeps = told_still Keeps keeps_all (together m s).blocks; gained = gains_still (together m s) d }

pub stages_stay : StagesStay
stages_stay = λ w m s d reply answered. record {
  answered = ⊎_elim (λ due. inl due) (λ excused. inr (excused, refl)) answered;
  later = Later-refl m;
  carries = λ c. c;
  stored = gains_still m d;
  still = λ none. refl;
  stays = stays_still m s d s.state.begun;
  gets = omega arith;
  puts = omega arith;
  owed = omega arith;
}

held_empty : (bs : List (List ℕ)) (a : Option (List (List ℕ))) → IfTold a (λ held. AllByRecursion (λ b. block_at held (id_of b) ≡ Some b) bs) → IfTold (option_map (λ held. [] ++ held) a) (λ held. AllByRecursion (λ b. block_at held (id_of b) ≡ Some b) bs)
held_empty bs None all = tt
held_empty bs (Some held) all = all

pub batches_begin : BatchesBegin
batches_begin = λ w m v.
    let d : Due Value = begin_due (idle v) None in record {
      answered = inl (refl, refl);
      later = Later-refl m;
      carries = λ c. record { kept = c.kept; value = held_empty (value_blocks w v) m.blocks c.value; places = c.places };
      stored = gains_still m d;
      still = λ none. refl;
      stays = record {
        keeps = told_empty Keeps keeps_all m.blocks;
        gained = record {
          adds = told_empty (Came (λ b held. Contains d.adds b)) (came_still (λ b held. Contains d.adds b)) m.blocks;
          whole = told_empty (Came (λ b held. IsWhole held (d.children b))) (came_still (λ b held. IsWhole held (d.children b))) m.blocks;
        };
      };
      gets = omega arith;
      puts = omega arith;
      owed = omega arith;
    }

pub batches_end : BatchesEnd
batches_end = λ w m v kept owed own.
    let d : Due Value = abort_due (begun_at v kept) (Some kept) in record {
      answered = inl (refl, refl);
      later = Later-refl m;
      carries = λ c. record { kept = c.kept; value = c.kept; places = carried_by w kept m.blocks c.kept };
      stored = gains_still m d;
      still = λ none. refl;
      stays = tt;
      gets = omega arith;
      puts = omega arith;
      owed = omega arith;
    }
