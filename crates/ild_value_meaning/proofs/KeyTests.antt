-- A test of keys: the walk of a text finds a front or a refusal, and what is refused has no front.
use Rattle.std.proofs.Common.{◌≡◌, ◌⊎◌, inl, inr, ℕ, List, Bool, true, false, Option, Some, None, refl, sym, ◌∙◌}
use Rattle.std.specs.Prelude.{◌↔◌, IsUtf8, length, slice_get}
use Rattle.std.specs.Str.{is_utf8}
use Rattle.std.proofs.lemmas.Str.{is_utf8-from_IsUtf8, IsUtf8-from_is_utf8}
use Rattle.std.proofs.lemmas.Option.{slice_get_within}
use Rattle.ild_data.specs.Data as T
use Rattle.ild_schema.specs.declared.row.Row.{Row}
use Rattle.ild_schema.specs.Prelude.{number}
use Rattle.ild_schema.specs.Slots.{plainly}
use Rattle.ild_schema.specs.Value.{Value}
use Rattle.ild_schema.proofs.Legibly.{legible}
use Rattle.ild_typed.specs.Fits.{IsTextOf, Front}
use Rattle.ild_typed.specs.Refused.{Refusal, Refused}
use Rattle.ild_typed.specs.Schema.{IsSchema}
use Rattle.ild_typed.proofs.OneValue.{plain_safe}
use Rattle.ild_typed.proofs.WalkForms.{table_walk}
use Rattle.ild_typed.proofs.WalkSound.{refused_sound}
use Rattle.ild_value_meaning.proofs.InTable.{outside, no_fit}
use Rattle.ild_value_meaning.specs.KeyTests.{KeysAreTested}
use Rattle.ild_value_meaning.proofs.EnoughRooms.{AreRoomsEnough, room_for, enough}

false_true : false ≡ true → ⊥
false_true e = absurd cc

module _ (rows : List Row) (schema : IsSchema rows) (room_of : List ℕ → ℕ) (enough : AreRoomsEnough rows room_of) where
  abbrev IsTold : ℕ → List ℕ → Type 0
  IsTold n k = (b : Bool) × ((b ≡ true) ↔ (IsUtf8 k × IsTextOf rows (number n) k))

  by_walk : (n : ℕ) (k : List ℕ) → IsUtf8 k
      → ((f : Value) × Front rows (room_of k) (plainly (number n)) f (T.text k)) ⊎ ((r : Refusal) × Refused rows (room_of k) (plainly (number n)) (T.text k) r)
      → IsTold n k
  by_walk n k utf8 (inl (f, front)) = (true, ((λ e. (utf8, (room_of k, (f, front.fits, front.tree)))), (λ h. refl)))
  by_walk n k utf8 (inr (r, refused)) = (
    false,
    (
      (λ e. absurd (false_true e)),
      (λ h. absurd (refused_sound rows (legible rows schema.accepted).clear (legible rows schema.accepted).delims (room_of k) 0 (plainly (number n))
          (plain_safe rows (plainly (number n)) refl) (T.text k) r refused (enough (number n) k h.0 h.1))),
    ),
  )

  by_row : (n : ℕ) (k : List ℕ) (u : Bool) (o : Option Row) → is_utf8 k ≡ u → slice_get rows n ≡ o → IsTold n k
  by_row n k false o e at = (false, ((λ e. absurd (false_true e)), (λ h. absurd (differ (sym (is_utf8-from_IsUtf8 k h.0) ∙ e)))))
    where
      differ : true ≡ false → ⊥
      differ e = absurd cc
  by_row n k true None e at = (false, ((λ e. absurd (false_true e)), (λ h. absurd (no_fit rows (number n) (outside rows n (length rows) at) h.1.0 h.1.1.0 h.1.1.1))))
  by_row n k true (Some r) e at =
      let utf8 = IsUtf8-from_is_utf8 k e in
      by_walk n k utf8 (table_walk rows schema (room_of k) (plainly (number n)) (slice_get_within rows n r at) (T.text k) utf8)

  told : (n : ℕ) (k : List ℕ) → IsTold n k
  told n k = by_row n k (is_utf8 k) (slice_get rows n) refl refl

pub keys_are_tested : KeysAreTested
keys_are_tested rows schema = let all = enough rows schema in ((λ n k. (told rows schema (room_for rows) all n k).0), (λ key k. (told rows schema (room_for rows) all key.0 k).1))
