-- A list of bytes can be written, and isn't deep.
use Rattle.std.specs.Prelude.{if◌then◌else◌}
use Rattle.std.proofs.Common.{◌≡◌, ◌≤◌, ◌+◌, ℕ, List, [], ◌∷◌, map, Bool, true, false, Some, None, Ok, refl, sym, ap, ◌∙◌, subst, arith}
use Rattle.ild_data.specs.Data.{Data, items_of, items_depth, depth, bytes}
use Rattle.ild_data.specs.Limits.{deepest}
use Rattle.ild_json.specs.Printing.{items_have_reserved, json_text}
use Rattle.ild_json.specs.Reading.{json_read}
use Rattle.ild_run_verify.specs.Proof.{blocks_data}
use Rattle.ild_run_prove.specs.Proved.{Prints}

none_reserved : (bs : List (List ℕ)) → items_have_reserved (items_of (map bytes bs)) ≡ false
none_reserved [] = refl
none_reserved (b ∷ bs) = none_reserved bs

some_text : {X : Type 0} (b : Bool) (x : X) → b ≡ false → (if b then None else Some x) ≡ None → ⊥
some_text true x is none = absurd cc
some_text false x is none = absurd cc

pub never_reserved : (bs : List (List ℕ)) → json_text (blocks_data bs) ≡ None → ⊥
unfolding json_text
never_reserved bs none = some_text (items_have_reserved (items_of (map bytes bs))) _ (none_reserved bs) none

flat : (bs : List (List ℕ)) → items_depth (items_of (map bytes bs)) ≤ 0
flat [] = omega arith
flat (b ∷ bs) = let rest = flat bs in omega (arith, rest)

pub low : (bs : List (List ℕ)) → items_depth (items_of (map bytes bs)) + 1 ≤ deepest
low bs = let rest = flat bs in omega (arith, rest)

-- data that are the list of the blocks
pub prints : (bs : List (List ℕ)) (d : Data) (json : List ℕ) → d ≡ blocks_data bs → json_text d ≡ Some json → (depth d ≤ deepest → json_read json ≡ Ok d) → Prints bs json
prints bs d json same text back = record {
  printed = sym (ap json_text same) ∙ text;
  read = back (subst (λ (x : Data). depth x ≤ deepest) (sym same) (low bs)) ∙ ap Ok same;
}
