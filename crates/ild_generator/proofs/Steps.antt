-- The steps of the generator as edits of the value of its type.
use Rattle.std.proofs.Common.{◌≡◌, ℕ, ℤ, pos, ◌+◌, ◌-◌, ◌%◌, ◌/◌, ◌^◌, ◌<◌, zero, suc, List, [], ◌∷◌, map, Bool, true, false, Option, Some, None, Ok, Err, Result, refl, ap, ◌∙◌, arith, le→leb}
use Rattle.std.specs.Prelude.{◌||◌, IsUtf8, codes, decimal, is_some, option_map, if◌then◌else◌}
use Rattle.std.specs.List.{AllByRecursion}
use Rattle.std.specs.Ordering.{match_ordering}
use Rattle.std.specs.declared.cmp.Ordering.{Ordering}
use Rattle.std.specs.declared.cmp.Ordering.TheVariants.{Less, Equal, Greater}
use Rattle.std.proofs.lemmas.Fmt.{IsAscii-decimal}
use Rattle.std.proofs.lemmas.Str.{IsUtf8-append, IsUtf8-from_ascii}
use Rattle.std.proofs.lemmas.Bool.{or_right}
use Rattle.ild_schema.proofs.Parts.{pairs_list-pairs_of}
use Rattle.ild_data.proofs.Rising.{rises_put, rises_without}
use Rattle.ild_data.specs.Data as T
use Rattle.ild_data.specs.Integer.{IsInt}
use Rattle.ild_data.specs.Key.{key_cmp, same_text, put, value_at, without}
use Rattle.ild_data.specs.Spell.{id_of}
use Rattle.ild_path_edits.specs.Edit.{Edit, set_at, del_at, line_change, unless_kept}
use Rattle.ild_path_edits.specs.Judged.{Tests, AreTests, judged_result, unless_judged}
use Rattle.ild_path_edits.specs.Table.{unless_there}
use Rattle.ild_script_meaning.specs.PlainValue.{Value as Entries}
use Rattle.ild_schema.specs.Prelude.{number}
use Rattle.ild_schema.specs.Slots.{plainly}
use Rattle.ild_schema.specs.Value as V
use Rattle.ild_schema.specs.Value.{pairs_of, pairs_list}
use Rattle.ild_script.specs.declared.reply.No.{No}
use Rattle.ild_script.specs.declared.reply.No.TheVariants as N
use Rattle.ild_script_meaning.proofs.PlainValues.{entry_there, entry_put, entry_gone}
use Rattle.ild_script_meaning.specs.Lines.{changed, read_json}
use Rattle.ild_script_meaning.specs.PlainMap.{int_entry, as_value, IsPlain}
use Rattle.ild_typed.specs.Fits.{FitsPast}
use Rattle.ild_typed.specs.OfType.{TestsKeys}
use Rattle.ild_typed.specs.Stands.{bare}
use Rattle.ild_generator.specs.Generated.{Generated, generated, advanced, deleted, set_to, with_set, with_deletion, refusal}
use Rattle.ild_generator.specs.Laws.{setting_with, judged_map, StepsAreEdits, EntriesArePlain}
use Rattle.ild_generator.specs.Numbers.{is_deletion, key_of}
use Rattle.ild_generator.specs.Schema.{generator_rows, generator_type}
use Rattle.ild_generator.proofs.Ascii.{ascii}
use Rattle.ild_generator.proofs.Maps.{map_judged}

-- ---- keys are texts

mod_below : (a b : ℕ) → 0 < b → a % b < b
mod_below a b some = omega arith

pub key_utf8 : (x : ℕ) → IsUtf8 (key_of x)
unfolding key_of
key_utf8 x =
    let low : x / 2 ^ 40 % 65536 < 65536 = mod_below (x / 2 ^ 40) 65536 (omega arith) in
    IsUtf8-append (codes "k") (decimal (x / 2 ^ 40 % 65536)) (IsUtf8-from_ascii (codes "k") (ascii (codes "k") refl))
    (IsUtf8-from_ascii (decimal (x / 2 ^ 40 % 65536)) (IsAscii-decimal (x / 2 ^ 40 % 65536) (omega (arith, low))))

-- ---- maps stay plain

abbrev Fine : List ℕ × ℤ → Type 0
Fine e = IsUtf8 e.0 × IsInt e.1

each_put : (k : List ℕ) (n : ℤ) (es : Entries) → Fine (k, n) → AllByRecursion Fine es → AllByRecursion Fine (put k n es)
each_put k n [] new all = (new, tt)
each_put k n (e ∷ es) new all = by (key_cmp k e.0) (each_put k n es new all.1)
  where
    by : (o : Ordering) → AllByRecursion Fine (put k n es) → AllByRecursion Fine (match_ordering o ((k, n) ∷ e ∷ es) ((k, n) ∷ es) (e ∷ put k n es))
    by Less h = (new, all)
    by Equal h = (new, all.1)
    by Greater h = (all.0, h)

each_without : (k : List ℕ) (es : Entries) → AllByRecursion Fine es → AllByRecursion Fine (without k es)
each_without k [] all = tt
each_without k (e ∷ es) all = by (same_text k e.0) (each_without k es all.1)
  where
    by : (b : Bool) → AllByRecursion Fine (without k es) → AllByRecursion Fine (if b then es else e ∷ without k es)
    by true h = all.1
    by false h = (all.0, h)

is_int : (i : ℕ) → i < 2 ^ 64 → IsInt (pos i)
is_int i low = (record { le = tt }, record { le = le→leb i (2 ^ 64 - 1) (omega (arith, low)) })

pub put_plain : (x i : ℕ) (es : Entries) → i < 2 ^ 64 → IsPlain es → IsPlain (put (key_of x) (pos i) es)
put_plain x i es low plain = record { rises = rises_put (key_of x) (pos i) es plain.rises; each = each_put (key_of x) (pos i) es (key_utf8 x, is_int i low) plain.each }

pub gone_plain : (x : ℕ) (es : Entries) → IsPlain es → IsPlain (without (key_of x) es)
gone_plain x es plain = record { rises = rises_without (key_of x) es plain.rises; each = each_without (key_of x) es plain.each }

set_plain : (s : Generated) (es : Entries) (o : Option No) → IsPlain s.entries → IsPlain es → IsPlain (with_set s es o).entries
set_plain s es None plain new = new
set_plain s es (Some cause) plain new = plain

deletion_plain : (s : Generated) (es : Entries) (o : Option No) → IsPlain s.entries → IsPlain es → IsPlain (with_deletion s es o).entries
deletion_plain s es None plain new = new
deletion_plain s es (Some cause) plain new = plain

deleted_plain : (s : Generated) (es : Entries) (o : Option No) (there : Bool) → IsPlain s.entries → IsPlain es → IsPlain (if there then with_deletion s es o else record s { absent = s.absent + 1 }).entries
deleted_plain s es o true plain new = deletion_plain s es o plain new
deleted_plain s es o false plain new = plain

obeyed_plain : (i : ℕ) (s : Generated) (b : Bool) → i < 2 ^ 64 → IsPlain s.entries → IsPlain (if b then deleted s (key_of s.number) else set_to s (key_of s.number) i).entries
obeyed_plain i s true low plain =
    let es = without (key_of s.number) s.entries in
    deleted_plain s es (refusal es) (is_some (value_at (key_of s.number) s.entries)) plain (gone_plain s.number s.entries plain)
obeyed_plain i s false low plain =
    let es = put (key_of s.number) (pos i) s.entries in
    set_plain s es (refusal es) plain (put_plain s.number i s.entries low plain)

pub entries_plain : EntriesArePlain
entries_plain seed zero low = record { rises = tt; each = tt }
entries_plain seed (suc i) low =
    let s = advanced (generated seed i) in
    obeyed_plain i s (is_deletion s.number) (omega (arith, low)) (entries_plain seed i (omega (arith, low)))

-- ---- edits

there : (k : List ℕ) (es : Entries) → value_at k (pairs_list (pairs_of (map int_entry es))) ≡ option_map V.integer (value_at k es)
there k es = ap (value_at k) (pairs_list-pairs_of (map int_entry es)) ∙ entry_there k es

key_is : (is_key : ℕ → List ℕ → Bool) → TestsKeys generator_rows is_key → (k : List ℕ) → IsUtf8 k → is_key 7 k ≡ true
unfolding FitsPast
key_is is_key keys k utf8 = (keys (number 7) k).1 (utf8, (0, (V.text k, (omega arith, utf8), refl)))

abbrev ok_of : V.Value → Result V.Value No
ok_of v = Ok v

put_by : (k : List ℕ) (n : ℤ) (es : Entries) (b : Bool) → b ≡ true
    → (if b then Ok (V.map (pairs_of (put k (V.integer n) (pairs_list (pairs_of (map int_entry es)))))) else Err N.Mismatch) ≡ ok_of (as_value (put k n es))
put_by k n es true e = ap (λ ps. Ok (V.map (pairs_of (put k (V.integer n) ps)))) (pairs_list-pairs_of (map int_entry es)) ∙ ap (λ ps. Ok (V.map (pairs_of ps))) (entry_put k n es)
put_by k n es false e = absurd cc

gone_by : (k : List ℕ) (es : Entries) (o : Option ℤ)
    → unless_kept (V.map (pairs_of (without k (pairs_list (pairs_of (map int_entry es)))))) (unless_there (option_map V.integer o)) ≡ (if is_some o then Ok (as_value (without k es)) else Err N.Path)
gone_by k es None = refl
gone_by k es (Some n) = ap (λ ps. Ok (V.map (pairs_of (without k ps)))) (pairs_list-pairs_of (map int_entry es)) ∙ ap (λ ps. Ok (V.map (pairs_of ps))) (entry_gone k es)

module _ (t : Tests) (are : AreTests generator_rows t) where
  abbrev pub edit_makes : Entries → Edit (List ℕ) → Result V.Value No
  edit_makes es e = line_change generator_rows t.is_key read_json (plainly generator_type, as_value es) e

  pub set_makes : (k json : List ℕ) (n : ℤ) (es : Entries) → IsUtf8 k → read_json json ≡ Some (T.integer n) → edit_makes es (set_at (k ∷ []) json) ≡ Ok (as_value (put k n es))
  set_makes k json n es utf8 read =
      rw read (put_by k n es (is_some (value_at k (pairs_list (pairs_of (map int_entry es)))) || t.is_key 7 k) (or_right (is_some (value_at k (pairs_list (pairs_of (map int_entry es))))) (t.is_key 7 k) (key_is t.is_key are.keys k utf8)))

  pub del_makes : (k : List ℕ) (es : Entries) → edit_makes es (del_at (k ∷ [])) ≡ (if is_some (value_at k es) then Ok (as_value (without k es)) else Err N.Path)
  del_makes k es = ap (λ o. unless_kept (V.map (pairs_of (without k (pairs_list (pairs_of (map int_entry es)))))) (unless_there o)) (there k es) ∙ gone_by k es (value_at k es)

  abbrev then_judged : Result V.Value No → Result V.Value No
  then_judged r = judged_result bare id_of generator_rows t generator_type r

  map_then : (es : Entries) → IsPlain es → then_judged (Ok (as_value es)) ≡ judged_map es
  map_then es plain = ap (unless_judged (as_value es)) (map_judged t are es plain)

  there_then : (es : Entries) (b : Bool) → IsPlain es → then_judged (if b then Ok (as_value es) else Err N.Path) ≡ (if b then judged_map es else Err N.Path)
  there_then es true plain = map_then es plain
  there_then es false plain = refl

  step_by : (s : Generated) → IsPlain s.entries → (i : ℕ) → i < 2 ^ 64 → (json : List ℕ) (b : Bool) → (b ≡ false → read_json json ≡ Some (T.integer (pos i)))
      → changed (setting_with t) (as_value s.entries) (if b then del_at (key_of s.number ∷ []) else set_at (key_of s.number ∷ []) json)
      ≡ (if b then (if is_some (value_at (key_of s.number) s.entries) then judged_map (without (key_of s.number) s.entries) else Err N.Path) else judged_map (put (key_of s.number) (pos i) s.entries))
  step_by s plain i low json true read =
      ap then_judged (del_makes (key_of s.number) s.entries) ∙ there_then (without (key_of s.number) s.entries) (is_some (value_at (key_of s.number) s.entries)) (gone_plain s.number s.entries plain)
  step_by s plain i low json false read =
      ap then_judged (set_makes (key_of s.number) json (pos i) s.entries (key_utf8 s.number) (read refl)) ∙ map_then (put (key_of s.number) (pos i) s.entries) (put_plain s.number i s.entries low plain)

pub steps_edit : StepsAreEdits
steps_edit t are s plain i low json read = step_by t are s plain i low json (is_deletion s.number) read
