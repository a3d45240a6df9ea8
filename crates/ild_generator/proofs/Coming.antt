-- The blocks that may come by a step of the generator.
use Rattle.std.proofs.Common.{◌≡◌, ℕ, ◌<◌, ◌≤◌, ◌^◌, pos, zero, suc, List, [], ◌∷◌, length, Bool, true, false, Option, Some, None, Ok, Err, Result, refl, sym, ap, subst, arith}
use Rattle.std.specs.Prelude.{Contains, nat_le, not, is_some, if◌then◌else◌}
use Rattle.std.specs.List.{filter}
use Rattle.std.specs.Option.{option_map_or}
use Rattle.std.specs.Result.{result_ok}
use Rattle.ild_data.specs.Data as T
use Rattle.ild_data.specs.Key.{put, value_at, without}
use Rattle.ild_data.specs.Limits.{longest_block}
use Rattle.ild_data.specs.Spell.{id_of}
use Rattle.ild_path_edits.specs.Edit.{Edit, set_at, del_at}
use Rattle.ild_path_edits.specs.Judged.{Tests, AreTests, are_sized, unless_judged}
use Rattle.ild_schema.specs.Slots.{plainly}
use Rattle.ild_schema.specs.Value as V
use Rattle.ild_script.specs.declared.reply.No.{No}
use Rattle.ild_script.specs.declared.reply.No.TheVariants as N
use Rattle.ild_script_meaning.specs.Lines.{edit_blocks, line_changed, part_of, read_json, short, value_blocks}
use Rattle.ild_script_meaning.specs.PlainMap.{as_value, IsPlain}
use Rattle.ild_script_meaning.specs.PlainValue.{Value as Entries}
use Rattle.ild_typed.specs.Blocks.{nodes}
use Rattle.ild_typed.specs.Judged.{exhausts}
use Rattle.ild_typed.specs.Stands.{bare}
use Rattle.ild_generator.specs.Generated.{Generated, refusal, blocks_in, asked_map}
use Rattle.ild_generator.specs.Laws.{setting_with, step_edit, step_makes, judged_map, StepsAddBlocks}
use Rattle.ild_generator.specs.Numbers.{is_deletion, key_of}
use Rattle.ild_generator.specs.Schema.{generator_rows, generator_type}
use Rattle.ild_generator.proofs.Steps.{key_utf8, set_makes, del_makes}

contains_more : (y : List ℕ) (ys : List (List ℕ)) (x : List ℕ) → Contains ys x → Contains (y ∷ ys) x
contains_more y ys x here = (suc here.0, (let lt = here.1 in omega (arith, lt)), here.2)

none_in : (x : List ℕ) → Contains {X = List ℕ} [] x → ⊥
none_in x here = let low = here.1 in omega (arith, low)

among_first : (y : List ℕ) (xs ys : List (List ℕ)) (x : List ℕ) → (Contains xs x → Contains ys x) → Contains (y ∷ xs) x → Contains (y ∷ ys) x
among_first y xs ys x rest (zero, low, is) = (0, omega arith, is)
among_first y xs ys x rest (suc i, low, is) = contains_more y ys x (rest (i, omega (arith, low), is))

from_filter : (p : List ℕ → Bool) (bs : List (List ℕ)) (b : List ℕ) → Contains (filter p bs) b → Contains bs b
from_filter p [] b here = here
from_filter p (c ∷ bs) b here = by (p c) (from_filter p bs b) here
  where
    by : (t : Bool) → (Contains (filter p bs) b → Contains bs b) → Contains (if t then c ∷ filter p bs else filter p bs) b → Contains (c ∷ bs) b
    by true rest here = among_first c (filter p bs) bs b rest here
    by false rest here = contains_more c bs b (rest here)

module _ (t : Tests) (v : V.Value) (e : Edit (List ℕ)) (es : Entries) (b : List ℕ) (made : line_changed (setting_with t) v e ≡ Ok (as_value es))
    (none : option_map_or (λ q. nodes id_of generator_rows q.0 q.1) (part_of (setting_with t) v e) [] ≡ []) where
  abbrev MayCome : Result V.Value No → Type 0
  MayCome r = Contains (edit_blocks (setting_with t) v e r) b

  by_tests : (d z : Bool) → MayCome (unless_judged (as_value es) (if d then Some N.Exhausted else if not z then Some N.Size else None)) → Contains (blocks_in es) b
  by_tests true z here = absurd (none_in b (subst (λ bs. Contains bs b) none here))
  by_tests false true here = here
  by_tests false false here =
      from_filter (λ x. nat_le (length x) longest_block) (blocks_in es) b
      (subst (λ r. Contains (short (option_map_or (value_blocks (setting_with t)) (result_ok r) [])) b) made here)

  pub of_map : MayCome (judged_map es) → Contains (blocks_in es) b
  of_map here = by_tests (exhausts id_of generator_rows (plainly generator_type) (as_value es)) (are_sized bare id_of generator_rows generator_type (as_value es)) here

module _ (t : Tests) (are : AreTests generator_rows t) (s : Generated) (plain : IsPlain s.entries) (i : ℕ) (low : i < 2 ^ 64) (json b : List ℕ) where
  abbrev k : List ℕ
  k = key_of s.number

  there_come : (there : Bool) → is_some (value_at k s.entries) ≡ there
      → Contains (edit_blocks (setting_with t) (as_value s.entries) (del_at (k ∷ [])) (if there then judged_map (without k s.entries) else Err N.Path)) b → Contains (blocks_in (without k s.entries)) b
  there_come true is here =
      of_map t (as_value s.entries) (del_at (k ∷ [])) (without k s.entries) b
      (subst (λ x. line_changed (setting_with t) (as_value s.entries) (del_at (k ∷ [])) ≡ (if x then Ok (as_value (without k s.entries)) else Err N.Path)) is (del_makes t are k s.entries)) refl here
  there_come false is here = absurd (none_in b here)

  come_by : (d : Bool) → (d ≡ false → read_json json ≡ Some (T.integer (pos i)))
      → Contains (edit_blocks (setting_with t) (as_value s.entries) (if d then del_at (k ∷ []) else set_at (k ∷ []) json) (if d then (if is_some (value_at k s.entries) then judged_map (without k s.entries) else Err N.Path) else judged_map (put k (pos i) s.entries))) b
      → Contains (blocks_in (if d then without k s.entries else put k (pos i) s.entries)) b
  come_by true read here = there_come (is_some (value_at k s.entries)) refl here
  come_by false read here =
      of_map t (as_value s.entries) (set_at (k ∷ []) json) (put k (pos i) s.entries) b (set_makes t are k json (pos i) s.entries (key_utf8 s.number) (read refl)) (rw (read refl) refl) here

pub steps_add : StepsAddBlocks
steps_add t are s plain i low json read b here = come_by t are s plain i low json b (is_deletion s.number) read here
