-- A map of the generator as a value of its type: it fits, and is judged by its trie and by the length of its blocks alone.
use Rattle.std.proofs.Common.{◌≡◌, ℕ, List, [], ◌∷◌, map, Bool, true, false, Option, Some, None, inl, refl, sym, subst, arith}
use Rattle.std.specs.Prelude.{IsUtf8, not, if◌then◌else◌}
use Rattle.std.specs.List.{AllByRecursion}
use Rattle.ild_schema.proofs.Parts.{pairs_list-pairs_of}
use Rattle.ild_data.specs.Data as T
use Rattle.ild_data.specs.Integer.{IsInt}
use Rattle.ild_data.specs.Key.{IsBelow, Rises}
use Rattle.ild_data.specs.Spell.{id_of}
use Rattle.ild_data.specs.TrieShape.{usual}
use Rattle.ild_path_edits.specs.Judged.{Tests, AreTests, judged, are_sized}
use Rattle.ild_script_meaning.specs.PlainValue.{Value as Entries}
use Rattle.ild_schema.specs.Prelude.{number}
use Rattle.ild_schema.specs.Slots.{plainly}
use Rattle.ild_schema.specs.Value as V
use Rattle.ild_schema.specs.Value.{pairs_of, pairs_list}
use Rattle.ild_schema.specs.declared.def.MapForm.TheVariants as MF
use Rattle.ild_schema.specs.declared.def.TypeDef.{TypeDef}
use Rattle.ild_schema.specs.declared.number.Slot.{Slot}
use Rattle.ild_script.specs.declared.reply.No.TheVariants as N
use Rattle.ild_script_meaning.specs.PlainMap.{int_entry, as_value, IsPlain}
use Rattle.ild_typed.specs.EachLayer.{some_pair}
use Rattle.ild_typed.specs.Fits.{FitsPast, Fits}
use Rattle.ild_typed.specs.Judged.{has_hole, breaks_delimiter, exhausts, is_hole, breaks}
use Rattle.ild_typed.specs.Layers.{EntriesFit, RepresentsSome}
use Rattle.ild_typed.specs.Stands.{bare}
use Rattle.ild_generator.specs.Generated.{refusal}
use Rattle.ild_generator.specs.Schema.{generator_rows, generator_type}

abbrev int_slot : Slot
int_slot = plainly (number 3)

-- no layer of the entries meets a test
no_entry : (test : Option TypeDef → V.Value → Bool) (es : Entries) → some_pair test generator_rows int_slot (pairs_of (map int_entry es)) ≡ false
no_entry test [] = refl
no_entry test (e ∷ es) = no_entry test es

below_entries : (k : List ℕ) (es : Entries) → IsBelow k es → IsBelow k (map int_entry es)
below_entries k [] h = tt
below_entries k (e ∷ es) h = h

rises_entries : (es : Entries) → Rises es → Rises (map int_entry es)
rises_entries [] h = tt
rises_entries (e ∷ es) h = (below_entries e.0 es h.0, rises_entries es h.1)

each_fits : (es : Entries) → AllByRecursion (λ e. IsUtf8 e.0 × IsInt e.1) es
    → AllByRecursion (λ p. IsUtf8 p.0 × RepresentsSome (FitsPast generator_rows 95 4) generator_rows (plainly (number 7)) (T.text p.0) × FitsPast generator_rows 95 4 int_slot p.1) (map int_entry es)
unfolding FitsPast
each_fits [] all = tt
each_fits (e ∷ es) all = (((all.0).0, (V.text e.0, (omega arith, (all.0).0), refl), (omega arith, (all.0).1)), each_fits es all.1)

pub map_fits : (es : Entries) → IsPlain es → Fits generator_rows 96 (plainly generator_type) (as_value es)
unfolding FitsPast
map_fits es plain = (
  omega arith,
  inl (subst (EntriesFit (FitsPast generator_rows 95 4) generator_rows (number 7) int_slot (MF.Hamt usual)) (sym (pairs_list-pairs_of (map int_entry es))) (rises_entries es plain.rises, each_fits es plain.each)),
)

by_two : (a b c d z : Bool) → a ≡ false → b ≡ false → c ≡ true
    → (if a then Some N.Hole else if b then Some N.Delimiter else if not c then Some N.Depth else if d then Some N.Exhausted else if not z then Some N.Size else None)
    ≡ (if d then Some N.Exhausted else if not z then Some N.Size else None)
by_two a b c d z p q r = rw (p, q, r) refl

pub map_judged : (t : Tests) → AreTests generator_rows t → (es : Entries) → IsPlain es → judged bare id_of generator_rows t generator_type (as_value es) ≡ refusal es
map_judged t are es plain =
    let fits = map_fits es plain in
    by_two (has_hole generator_rows (plainly generator_type) (as_value es)) (breaks_delimiter generator_rows (plainly generator_type) (as_value es))
    (t.fits 96 (plainly generator_type) (as_value es)) (exhausts id_of generator_rows (plainly generator_type) (as_value es)) (are_sized bare id_of generator_rows generator_type (as_value es))
    (no_entry is_hole es) (no_entry (breaks generator_rows) es) ((are.rooms 96 (plainly generator_type) (as_value es) (96, fits)).1 fits)
