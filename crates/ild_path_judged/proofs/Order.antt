-- The first refusal of a changed value, step by step.
use Rattle.std.proofs.Common.{cond, ◌≡◌, ℕ, List, Bool, true, false, not, Option, Some, None, refl}
use Rattle.ild_schema.proofs.Legibly.{legible}
use Rattle.ild_schema.specs.declared.number.TypeNo.{TypeNo}
use Rattle.ild_schema.specs.declared.row.Row.{Row}
use Rattle.ild_schema.specs.Slots.{plainly}
use Rattle.ild_schema.specs.Value.{Value}
use Rattle.ild_script.specs.declared.reply.No.{No}
use Rattle.ild_script.specs.declared.reply.No.TheVariants as N
use Rattle.ild_typed.specs.Fits.{Fits}
use Rattle.ild_typed.specs.Judged.{has_hole, breaks_delimiter, exhausts}
use Rattle.ild_typed.specs.Stands.{Frame}
use Rattle.ild_typed.specs.Typed.{Typed}
use Rattle.ild_typed.proofs.MakingValues.{typed_tree}
use Rattle.ild_path_edits.specs.Judged.{Tests, AreTests, are_sized}
use Rattle.ild_path_judged.specs.Laws.{IsRefusedInOrder, RefusedInOrder, UnrefusedHaveData}

-- five tests in their order
abbrev first_of : Bool → Bool → Bool → Bool → Bool → Option No
first_of a b c d e = cond a (Some N.Hole) (cond b (Some N.Delimiter) (cond (not c) (Some N.Depth) (cond d (Some N.Exhausted) (cond (not e) (Some N.Size) None))))

not_so : (b : Bool) → (b ≡ true → ⊥) → b ≡ false
not_so true unless = absurd (unless refl)
not_so false unless = refl

module _ (f : Frame) (h : List ℕ → List ℕ) (rows : List Row) (t : Tests) (tests : AreTests rows t) (n : TypeNo) (c : Value) (typed : Typed rows (plainly n) c) where
  abbrev A : Bool
  A = has_hole rows (plainly n) c

  abbrev B : Bool
  B = breaks_delimiter rows (plainly n) c

  abbrev F : Bool
  F = t.fits f.room (plainly n) c

  abbrev E : Bool
  E = exhausts h rows (plainly n) c

  abbrev S : Bool
  S = are_sized f h rows n c

  fits : Fits rows f.room (plainly n) c → F ≡ true
  fits = (tests.rooms f.room (plainly n) c (typed.0, typed.1)).1

  deep : (Fits rows f.room (plainly n) c → ⊥) → F ≡ false
  deep unless = not_so F (λ e. unless ((tests.rooms f.room (plainly n) c (typed.0, typed.1)).0 e))

  in_order : IsRefusedInOrder f h rows t n c
  in_order = record {
    hole = λ a i. first_of (a i) B F E S;
    delimiter = λ a b i. first_of (a i) (b i) F E S;
    depth = λ a b unless i. first_of (a i) (b i) (deep unless i) E S;
    exhausted = λ a b fit e i. first_of (a i) (b i) (fits fit i) (e i) S;
    size = λ a b fit e s i. first_of (a i) (b i) (fits fit i) (e i) (s i);
    none = λ a b fit e s i. first_of (a i) (b i) (fits fit i) (e i) (s i);
  }

pub refused_in_order : RefusedInOrder
refused_in_order = λ f h rows t tests n c typed. in_order f h rows t tests n c typed

pub unrefused_have_data : UnrefusedHaveData
unrefused_have_data = λ h rows schema slot c typed a b e. typed_tree h rows (legible rows schema.accepted).made slot c typed a b e
