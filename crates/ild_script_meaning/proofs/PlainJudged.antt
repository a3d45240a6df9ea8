-- A plain map is judged by its size alone.
use Rattle.std.proofs.Common.{◌≡◌, ℕ, List, length, Bool, true, false, Some, None, refl, ◌∙◌, ap}
use Rattle.std.specs.Prelude.{◌&&◌, not, nat_le, if◌then◌else◌}
use Rattle.std.specs.List.{list_all}
use Rattle.std.specs.Option.{option_map_or}
use Rattle.ild_data.specs.Limits.{longest_block}
use Rattle.ild_schema.specs.Prelude.{number}
use Rattle.ild_schema.specs.Slots.{plainly}
use Rattle.ild_script.specs.declared.reply.No.TheVariants as N
use Rattle.ild_typed.specs.Judged.{has_hole, breaks_delimiter, exhausts, is_hole, breaks, is_exhausted}
use Rattle.ild_typed.specs.Stands.{bare, blocks_of}
use Rattle.ild_path_edits.specs.Judged.{Tests, AreTests, judged, are_sized}
use Rattle.ild_script_meaning.specs.PlainValue as P
use Rattle.ild_script_meaning.specs.PlainMap.{plain_rows, as_value, IsPlain}
use Rattle.ild_script_meaning.proofs.PlainValues.{data_is, one_block, no_layer, map_fits}

and_true : (b : Bool) → (b && true) ≡ b
and_true true = refl
and_true false = refl

last : (z : Bool) → (if not z then Some N.Size else None) ≡ (if z then None else Some N.Size)
last true = refl
last false = refl

by_size : (a b c d e z : Bool) → a ≡ false → b ≡ false → c ≡ true → d ≡ false → e ≡ z
    → (if a then Some N.Hole else if b then Some N.Delimiter else if not c then Some N.Depth else if d then Some N.Exhausted else if not e then Some N.Size else None) ≡ (if z then None else Some N.Size)
by_size a b c d e z p q r s t = rw (p, q, r, s, t) (last z)

module _ (name : List ℕ) (at key_at value_at : ℕ) (h : List ℕ → List ℕ) where
  sized : (v : P.Value) → are_sized bare h (plain_rows name at key_at value_at) (number 8) (as_value v) ≡ P.is_storable v
  sized v =
      ap (λ o. option_map_or (λ d. list_all (λ b. nat_le (length b) longest_block) (blocks_of bare h (plain_rows name at key_at value_at) (number 8) (as_value v) d)) o true) (data_is name at key_at value_at h v)
      ∙ ap (λ bs. list_all (λ b. nat_le (length b) longest_block) bs) (one_block name at key_at value_at h v) ∙ and_true (P.is_storable v)

  pub plain_judged : (t : Tests) → AreTests (plain_rows name at key_at value_at) t → (v : P.Value) → IsPlain v
      → judged bare h (plain_rows name at key_at value_at) t (number 8) (as_value v) ≡ (if P.is_storable v then None else Some N.Size)
  plain_judged t tests v plain =
      let fits = map_fits name at key_at value_at v plain in
      by_size (has_hole (plain_rows name at key_at value_at) (plainly (number 8)) (as_value v)) (breaks_delimiter (plain_rows name at key_at value_at) (plainly (number 8)) (as_value v))
      (t.fits 96 (plainly (number 8)) (as_value v)) (exhausts h (plain_rows name at key_at value_at) (plainly (number 8)) (as_value v))
      (are_sized bare h (plain_rows name at key_at value_at) (number 8) (as_value v)) (P.is_storable v)
      (no_layer name at key_at value_at is_hole v) (no_layer name at key_at value_at (breaks (plain_rows name at key_at value_at)) v)
      ((tests.rooms 96 (plainly (number 8)) (as_value v) (96, fits)).1 fits)
      (no_layer name at key_at value_at (is_exhausted h (plain_rows name at key_at value_at)) v) (sized v)
