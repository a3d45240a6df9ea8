-- What is found under an id, where it is of the form that is asked for and where it isn't.
use Rattle.std.proofs.Common.{◌≡◌, ℕ, List, None, Some, true, ap, sym, subst}
use Rattle.std.proofs.Math.Bool.{Bool-set}
use Rattle.std.proofs.Math.Logic.{∥∥₁_elim}
use Rattle.std.specs.Prelude.{Ok, Err, is_none}
use Rattle.ild_cbor.proofs.Blocks.{block_again}
use Rattle.ild_cbor.specs.Reading.{fault_of}
use Rattle.ild_cbor.specs.declared.why.BlockWhy.{BlockWhy}
use Rattle.ild_cbor.specs.declared.why.BlockWhy.TheVariants as B
use Rattle.ild_cbor.specs.declared.why.Why.{Why}
use Rattle.ild_data.proofs.Options.{none_is}
use Rattle.ild_data.specs.Data.{text}
use Rattle.ild_edges.specs.Gained.{IsUnder}
use Rattle.ild_edges.specs.Store.{Gets, Moment}
use Rattle.ild_open_parts.specs.declared.fault.OpenFault.{OpenFault}
use Rattle.ild_open_parts.specs.declared.fault.OpenFault.TheVariants as F
use Rattle.ild_open_named.specs.Broken.{IsWrongUnder}
use Rattle.ild_open_named.specs.inside.Found.{FindAnswer, Finds, GetAnswer, GetsBlock, IsTextBlock, StopsAt}

pub under_of : (id b : List ℕ) (m n : Moment) → Gets m id (Ok (Some b)) n → IsUnder m.blocks id b
under_of id b m n got = record { named = got.answer.0; held = got.answer.1 }

module _ {A : Type 0} (Done : A → Type 0) (Wrong : List ℕ → Why → Type 0) (id : List ℕ) (m n : Moment) where
  get_stops : (e : OpenFault) → GetAnswer id m (Err e) n → FindAnswer Done Wrong id m (Err e) n
  get_stops (F.Block at why) y = (y.0, subst (λ (w : BlockWhy). IsWrongUnder Wrong m.blocks m.lacks n.lacks id w) (sym y.1) (y.2, y.3))
  get_stops F.Store y = y
  get_stops F.Memory y = tt

  -- no block came
  pub ungot : (e : OpenFault) → GetsBlock id m (Err e) n → Finds Done Wrong id m (Err e) n
  ungot e x = record { answer = get_stops e x.answer; only = x.only; gets = x.gets }

  form_stops : (b : List ℕ) (e : OpenFault) → IsUnder m.blocks id b → StopsAt Wrong id b e → FindAnswer Done Wrong id m (Err e) n
  form_stops b (F.Block at B.Missing) under y = absurd y.1
  form_stops b (F.Block at (B.Cbor fault)) under y = (y.0, (b, under, y.1))
  form_stops b (F.Block at (B.Shape why)) under y = (y.0, (b, under, y.1))
  form_stops b F.Store under y = absurd y
  form_stops b F.Memory under y = tt

  -- one of another form
  pub misfound : (b : List ℕ) (e : OpenFault) → GetsBlock id m (Ok b) n → StopsAt Wrong id b e → Finds Done Wrong id m (Err e) n
  misfound b e x stops = record { answer = form_stops b e (under_of id b m n x.answer) stops; only = x.only; gets = x.gets }

-- ---- texts

pub text_faultless : (b : List ℕ) → ∥ IsTextBlock b ∥₁ → fault_of b ≡ None
text_faultless b h = none_is (fault_of b) (∥∥₁_elim h (Bool-set (is_none (fault_of b)) true) (λ x. ap is_none (block_again b (text x.source) x.block)))
