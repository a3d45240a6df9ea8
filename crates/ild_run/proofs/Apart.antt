-- The premise on collisions can be met.
use Rattle.std.proofs.Common.{◌≡◌, ℕ, List, Option, Some, subst}
use Rattle.std.specs.Prelude.{Contains}
use Rattle.ild_data.specs.Spell.{id_of}
use Rattle.ild_edges.specs.Store.{Moment, block_at}
use Rattle.ild_edges.specs.Told.{IfTold}
use Rattle.ild_run_script.specs.Plainly.{MayBatch, MayCome}
use Rattle.ild_script.specs.Line.{lines_of}
use Rattle.ild_script_session.specs.Plain.{AreAllApart, MayBegin, MayPut}
use Rattle.ild_script_session.specs.Session.{idle}
use Rattle.ild_run.specs.Complete.{CanBeApart}
use Rattle.ild_run.specs.NamedScript.{LinesCanBeApart}

held_in : (told : Option (List (List ℕ))) (held : List (List ℕ)) (b : List ℕ) → told ≡ Some held → IfTold told (λ held. (block_at held (id_of b) ≡ Some b) × Unit {0}) → block_at held (id_of b) ≡ Some b
held_in told held b is has = (subst (λ (x : Option (List (List ℕ))). IfTold x (λ held. (block_at held (id_of b) ≡ Some b) × Unit {0})) is has).0

module _ (Begins : Type 0) (New : List ℕ → Type 0) (own : List (List ℕ)) (n : Moment) (held : List (List ℕ)) (is : n.blocks ≡ Some held) (only : (id b : List ℕ) → block_at held id ≡ Some b → Contains own b)
    (come : (b : List ℕ) → New b → Contains own b) (one : (a b : List ℕ) → Contains own a → Contains own b → id_of a ≡ id_of b → a ≡ b) where
  all_apart : AreAllApart n Begins New
  all_apart = record {
    held = λ kept new may has collide. collide.differ (one kept new (only (id_of kept) kept (held_in n.blocks held kept is has)) (come new may) collide.one_id);
    inside = λ begins a b may_a may_b collide. collide.differ (one a b (come a may_a) (come b may_b) collide.one_id);
  }

pub can_be_apart : CanBeApart
can_be_apart rows ty tests start v script own n held is only come one = all_apart (MayBatch rows ty tests v script) (MayCome rows ty tests start v script) own n held is only come one

pub lines_apart : LinesCanBeApart
lines_apart due v script own n held is only come one = all_apart (MayBegin due (idle v) (lines_of script)) (MayPut due (idle v) (lines_of script)) own n held is only come one
