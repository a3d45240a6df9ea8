-- The block of a value, by its steps.
use Rattle.std.proofs.Common.{Result, ◌≡◌, ◌⊎◌, ℕ, ◌<◌, ◌≤◌, List, true, false, Ok, Err, Some, None, refl, sym, ◌∙◌, subst, inl, inr, arith}
use Rattle.std.specs.Prelude.{length}
use Rattle.std.specs.List.{AllByRecursion}
use Rattle.ild_build.specs.IsJudged.{IsJudged}
use Rattle.ild_build.specs.declared.judgement.Judged.{Judged}
use Rattle.ild_build.specs.declared.judgement.Judged.TheVariants as J
use Rattle.ild_data.specs.Data.{Data}
use Rattle.ild_data.specs.Limits.{longest_block, deepest}
use Rattle.ild_json.specs.Reading.{json_read}
use Rattle.ild_json.specs.declared.error.JsonErr.{JsonErr}
use Rattle.ild_json.specs.declared.error.JsonErr.TheVariants as JE
use Rattle.ild_schema.specs.declared.number.TypeNo.{TypeNo}
use Rattle.ild_schema.specs.declared.row.Row.{Row}
use Rattle.ild_schema.specs.Slots.{plainly}
use Rattle.ild_schema.specs.Value.{Value}
use Rattle.ild_typed.specs.Blocks.{nodes}
use Rattle.ild_typed.specs.Fits.{Fits}
use Rattle.ild_typed.specs.Judged.{has_hole, breaks_delimiter, exhausts, IsTooLong}
use Rattle.ild_typed.proofs.Judging.{tree_sound}
use Rattle.ild_value.specs.Readings.{Means, MeansNone}
use Rattle.ild_value.specs.declared.fault.ShownErr.{ShownErr}
use Rattle.ild_value.specs.declared.fault.ShownErr.TheVariants as SE
use Rattle.ild_edges.specs.Store.{Moment, Later}
use Rattle.ild_edges.specs.Told.{BothTold}
use Rattle.ild_bulk_places.specs.Leaving.{AddsPlaced}
use Rattle.ild_typed_places.specs.Places.{places_in}
use Rattle.ild_build_blocks.specs.Builds.{HasBlocks, PutsSome, BuildAnswer, Builds}
use Rattle.ild_build_blocks.specs.declared.fault.BuildFault.{BuildFault}
use Rattle.ild_build_blocks.specs.declared.fault.BuildFault.TheVariants as B
use Rattle.ild_run_create.specs.Given.{IsGivenAs}
use Rattle.ild_run_create.specs.Refuses.{ValueHas, Refuses, turn, IsFirst}
use Rattle.ild_run_create.specs.inside.Steps.{json_fault, shown_fault, judged_refusal, built_fault, IsFirstOf, Stops, TriesNodes, BlockAnswer, HasBlock}
use Rattle.ild_run_create.specs.declared.fault.CreateFault.{CreateFault}
use Rattle.ild_run_create.specs.declared.fault.CreateFault.TheVariants as F
use Rattle.ild_run_create.specs.declared.fault.Refusal.{Refusal}
use Rattle.ild_run_create.specs.declared.fault.Refusal.TheVariants as R
use Rattle.ild_run_create.proofs.Outcomes.{bare_blocks, no_fault}

-- ---- the value

pub given_as : (rows : List Row) (n : TypeNo) (b : List ℕ) (t : Data) (v : Value) → json_read b ≡ Ok t → Means rows (plainly n) t v → IsGivenAs rows n b v
given_as rows n b t v json means = record { tree = t; json = json; meant = means.meant }

none_before : (q : Refusal) → turn q < 1 → ⊥
none_before R.Json less = omega arith
none_before R.Mismatch less = omega arith
none_before R.Hole less = omega arith
none_before R.Delimiter less = omega arith
none_before R.Depth less = omega arith
none_before R.Exhausted less = omega arith
none_before R.Size less = omega arith

no_json : (h : List ℕ → List ℕ) (rows : List Row) (n : TypeNo) (b : List ℕ) (e : JsonErr) → json_read b ≡ Err e → IsFirst h rows n b R.Json
no_json h rows n b e is = record { cause = (e, is); first = λ q less refuses. none_before q less }

told_json : (h : List ℕ → List ℕ) (rows : List Row) (n : TypeNo) (b : List ℕ) (e : JsonErr) → json_read b ≡ Err e → Stops h rows n b (json_fault e)
told_json h rows n b JE.Syntax is = no_json h rows n b JE.Syntax is
told_json h rows n b JE.Number is = no_json h rows n b JE.Number is
told_json h rows n b JE.Reserved is = no_json h rows n b JE.Reserved is
told_json h rows n b JE.Bytes is = no_json h rows n b JE.Bytes is
told_json h rows n b JE.Cid is = no_json h rows n b JE.Cid is
told_json h rows n b JE.Memory is = tt

pub stops_json : (h : List ℕ → List ℕ) (rows : List Row) (n : TypeNo) (b : List ℕ) (e : JsonErr) → (e ≡ JE.Memory) ⊎ (json_read b ≡ Err e) → Stops h rows n b (json_fault e)
stops_json h rows n b e (inl wanting) = subst (λ (x : JsonErr). Stops h rows n b (json_fault x)) (sym wanting) tt
stops_json h rows n b e (inr is) = told_json h rows n b e is

json_before : (h : List ℕ → List ℕ) (rows : List Row) (n : TypeNo) (b : List ℕ) (t : Data) → json_read b ≡ Ok t → (q : Refusal) → turn q < 2 → Refuses h rows n b q → ⊥
json_before h rows n b t json R.Json less refuses = no_fault b t refuses.0 json refuses.1
json_before h rows n b t json R.Mismatch less refuses = omega arith
json_before h rows n b t json R.Hole less refuses = omega arith
json_before h rows n b t json R.Delimiter less refuses = omega arith
json_before h rows n b t json R.Depth less refuses = omega arith
json_before h rows n b t json R.Exhausted less refuses = omega arith
json_before h rows n b t json R.Size less refuses = omega arith

pub stops_shown : (h : List ℕ → List ℕ) (rows : List Row) (n : TypeNo) (b : List ℕ) (t : Data) (e : ShownErr) → json_read b ≡ Ok t → MeansNone rows (plainly n) t e → Stops h rows n b (shown_fault e)
stops_shown h rows n b t (SE.Mismatch ty rule) json none = record { cause = record { tree = t; json = json; none = none }; first = json_before h rows n b t json }
stops_shown h rows n b t SE.Memory json none = tt

-- ---- the first cause of a value

hole_before : (h : List ℕ → List ℕ) (rows : List Row) (n : TypeNo) (v : Value) (q : Refusal) → turn q < 3 → ValueHas h rows n v q → ⊥
hole_before h rows n v R.Json less has = has
hole_before h rows n v R.Mismatch less has = has
hole_before h rows n v R.Hole less has = omega arith
hole_before h rows n v R.Delimiter less has = omega arith
hole_before h rows n v R.Depth less has = omega arith
hole_before h rows n v R.Exhausted less has = omega arith
hole_before h rows n v R.Size less has = omega arith

delimiter_before : (h : List ℕ → List ℕ) (rows : List Row) (n : TypeNo) (v : Value) → has_hole rows (plainly n) v ≡ false → (q : Refusal) → turn q < 4 → ValueHas h rows n v q → ⊥
delimiter_before h rows n v filled R.Json less has = has
delimiter_before h rows n v filled R.Mismatch less has = has
delimiter_before h rows n v filled R.Hole less has = let e : false ≡ true = sym filled ∙ has in cc
delimiter_before h rows n v filled R.Delimiter less has = omega arith
delimiter_before h rows n v filled R.Depth less has = omega arith
delimiter_before h rows n v filled R.Exhausted less has = omega arith
delimiter_before h rows n v filled R.Size less has = omega arith

depth_before : (h : List ℕ → List ℕ) (rows : List Row) (n : TypeNo) (v : Value) → has_hole rows (plainly n) v ≡ false → breaks_delimiter rows (plainly n) v ≡ false → (q : Refusal) → turn q < 5 → ValueHas h rows n v q → ⊥
depth_before h rows n v filled parted R.Json less has = has
depth_before h rows n v filled parted R.Mismatch less has = has
depth_before h rows n v filled parted R.Hole less has = let e : false ≡ true = sym filled ∙ has in cc
depth_before h rows n v filled parted R.Delimiter less has = let e : false ≡ true = sym parted ∙ has in cc
depth_before h rows n v filled parted R.Depth less has = omega arith
depth_before h rows n v filled parted R.Exhausted less has = omega arith
depth_before h rows n v filled parted R.Size less has = omega arith

-- what is judged of a value before it is built
pub record IsSound (rows : List Row) (n : TypeNo) (v : Value) : Type 0 where
  pub filled : has_hole rows (plainly n) v ≡ false
  pub parted : breaks_delimiter rows (plainly n) v ≡ false
  pub fits : Fits rows deepest (plainly n) v

exhausted_before : (h : List ℕ → List ℕ) (rows : List Row) (n : TypeNo) (v : Value) → IsSound rows n v → (q : Refusal) → turn q < 6 → ValueHas h rows n v q → ⊥
exhausted_before h rows n v sound R.Json less has = has
exhausted_before h rows n v sound R.Mismatch less has = has
exhausted_before h rows n v sound R.Hole less has = let e : false ≡ true = sym sound.filled ∙ has in cc
exhausted_before h rows n v sound R.Delimiter less has = let e : false ≡ true = sym sound.parted ∙ has in cc
exhausted_before h rows n v sound R.Depth less has = has sound.fits
exhausted_before h rows n v sound R.Exhausted less has = omega arith
exhausted_before h rows n v sound R.Size less has = omega arith

size_before : (h : List ℕ → List ℕ) (rows : List Row) (n : TypeNo) (v : Value) → IsSound rows n v → exhausts h rows (plainly n) v ≡ false → (q : Refusal) → turn q < 7 → ValueHas h rows n v q → ⊥
size_before h rows n v sound full R.Json less has = has
size_before h rows n v sound full R.Mismatch less has = has
size_before h rows n v sound full R.Hole less has = let e : false ≡ true = sym sound.filled ∙ has in cc
size_before h rows n v sound full R.Delimiter less has = let e : false ≡ true = sym sound.parted ∙ has in cc
size_before h rows n v sound full R.Depth less has = has sound.fits
size_before h rows n v sound full R.Exhausted less has = let e : false ≡ true = sym full ∙ has in cc
size_before h rows n v sound full R.Size less has = omega arith

pub first_judged : (h : List ℕ → List ℕ) (rows : List Row) (n : TypeNo) (v : Value) (j : Judged) → IsJudged rows deepest (plainly n) v (Some j) → IsFirstOf h rows n v (judged_refusal j)
first_judged h rows n v J.Hole judged = record { cause = judged; first = hole_before h rows n v }
first_judged h rows n v J.Delimiter judged = record { cause = judged.1; first = delimiter_before h rows n v judged.0 }
first_judged h rows n v J.Depth judged = record { cause = judged.2; first = depth_before h rows n v judged.0 judged.1 }

first_exhausted : (h : List ℕ → List ℕ) (rows : List Row) (n : TypeNo) (v : Value) → IsSound rows n v → exhausts h rows (plainly n) v ≡ true → IsFirstOf h rows n v R.Exhausted
first_exhausted h rows n v sound cause = record { cause = cause; first = exhausted_before h rows n v sound }

first_long : (h : List ℕ → List ℕ) (rows : List Row) (n : TypeNo) (v : Value) → IsSound rows n v → IsTooLong h rows (plainly n) v → IsFirstOf h rows n v R.Size
first_long h rows n v sound long = record {
  cause = long;
  first = size_before h rows n v sound (tree_sound h rows (plainly n) v long.tree long.represented).3;
}

-- ---- the blocks

tries_nodes : (h : List ℕ → List ℕ) (rows : List Row) (n : TypeNo) (v : Value) (m k : Moment) → IsSound rows n v → HasBlocks h rows (plainly n) v → PutsSome m (nodes h rows (plainly n) v) k → BothTold m.blocks k.blocks (AddsPlaced (places_in h rows (plainly n) v)) → TriesNodes h rows n v m k
tries_nodes h rows n v m k sound has steps children = record {
  tree = has.tree;
  storable = record {
    fits = sound.fits;
    tree = has.represented;
    sized = subst (λ (bs : List (List ℕ)). AllByRecursion (λ b. length b ≤ longest_block) bs) (bare_blocks h rows n v has.tree) has.sized;
  };
  steps = steps;
  children = children;
}

-- what building answers, as what creating does
abbrev pub block_result : Result (List ℕ) BuildFault → Result (List ℕ) CreateFault
block_result (Ok b) = Ok b
block_result (Err f) = Err (built_fault f)

block_answer : (h : List ℕ → List ℕ) (rows : List Row) (n : TypeNo) (v : Value) (m k : Moment) (result : Result (List ℕ) BuildFault) → IsSound rows n v → BuildAnswer h rows (plainly n) v m result k
    → PutsSome m (nodes h rows (plainly n) v) k → BothTold m.blocks k.blocks (AddsPlaced (places_in h rows (plainly n) v)) → BlockAnswer h rows n v m (block_result result) k
unfolding tries_nodes
block_answer h rows n v m k (Ok b) sound built steps children = (tries_nodes h rows n v m k sound built.has steps children, built.spelled, built.held)
block_answer h rows n v m k (Err B.Exhausted) sound built steps children = (first_exhausted h rows n v sound built.0, built.1)
block_answer h rows n v m k (Err B.Size) sound built steps children = (first_long h rows n v sound built.0, built.1)
block_answer h rows n v m k (Err B.Store) sound built steps children = (built.0, tries_nodes h rows n v m k sound built.1 steps children)
block_answer h rows n v m k (Err (B.Clash id kept new)) sound built steps children = (record { kept = kept; new = new; is = built.0 }, tries_nodes h rows n v m k sound built.1 steps children)
block_answer h rows n v m k (Err B.Memory) sound (inl same) steps children = inl same
block_answer h rows n v m k (Err B.Memory) sound (inr has) steps children = inr (tries_nodes h rows n v m k sound has steps children)

pub has_block : (h : List ℕ → List ℕ) (rows : List Row) (n : TypeNo) (v : Value) (m k : Moment) (result : Result (List ℕ) BuildFault) → IsJudged rows deepest (plainly n) v None → Builds h rows (plainly n) v m result k
    → HasBlock h rows n v m (block_result result) k
has_block h rows n v m k result judged builds = record {
  answer = block_answer h rows n v m k result (record { filled = judged.0; parted = judged.1; fits = judged.2 }) builds.answer builds.steps builds.children;
  later = builds.steps.later;
}

pub judged_stops : (h : List ℕ → List ℕ) (rows : List Row) (n : TypeNo) (v : Value) (m : Moment) (j : Judged) → Later m m → IsJudged rows deepest (plainly n) v (Some j) → HasBlock h rows n v m (Err (F.Refused (judged_refusal j))) m
judged_stops h rows n v m j same judged = record { answer = (first_judged h rows n v j judged, refl); later = same }
