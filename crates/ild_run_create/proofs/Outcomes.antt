-- Bytes make one value, or none for one first cause.
use Rattle.std.proofs.Common.{append-nil, ◌≡◌, ◌⊎◌, ℕ, ◌<◌, ◌≤◌, ◌==◌, List, ◌∷◌, Bool, true, false, if◌then◌else◌, Result, Ok, Err, Some, refl, sym, ap, ◌∙◌, subst, inl, inr, arith}
use Rattle.std.specs.Prelude.{length, Contains}
use Rattle.std.specs.List.{AllByRecursion}
use Rattle.std.proofs.lemmas.Bool.{cases_order}
use Rattle.std.proofs.lemmas.List.Elements.{All-contains, All-from_recursion}
use Rattle.std.proofs.lemmas.Option.{same_Some}
use Rattle.ild_data.specs.Data.{Data}
use Rattle.ild_data.specs.Limits.{longest_block}
use Rattle.ild_data.specs.Spell.{spell}
use Rattle.ild_json.specs.Reading.{json_read}
use Rattle.ild_json.specs.declared.error.JsonErr.{JsonErr}
use Rattle.ild_value_meaning.specs.Meant.{Meant}
use Rattle.ild_value_meaning.proofs.KeyTests.{keys_are_tested}
use Rattle.ild_value_meaning.proofs.Meanings.{one_meant}
use Rattle.ild_schema.specs.declared.number.TypeNo.{TypeNo}
use Rattle.ild_schema.specs.declared.row.Row.{Row}
use Rattle.ild_schema.specs.Slots.{plainly}
use Rattle.ild_schema.specs.Value.{Value}
use Rattle.ild_typed.specs.Blocks.{nodes}
use Rattle.ild_typed.specs.Hamt.{whole}
use Rattle.ild_typed.specs.Judged.{has_hole, breaks_delimiter, exhausts}
use Rattle.ild_typed.specs.Represented.{represented}
use Rattle.ild_typed.specs.Schema.{IsSchema}
use Rattle.ild_typed.specs.Stands.{bare, blocks_of, Storable}
use Rattle.ild_typed.proofs.Judging.{tree_sound}
use Rattle.ild_run_create.specs.Given.{IsGivenAs}
use Rattle.ild_run_create.specs.Refuses.{ValueHas, MeanNothing, GiveOne, Refuses, turn, IsFirst}
use Rattle.ild_run_create.specs.Laws.{OneIsMade, MadeAreUnrefused, OneIsFirst}
use Rattle.ild_run_create.specs.inside.Steps.{IsFirstOf}
use Rattle.ild_run_create.specs.declared.fault.Refusal.{Refusal}
use Rattle.ild_run_create.specs.declared.fault.Refusal.TheVariants as R

-- ---- one value

-- what is read, and whether anything is
abbrev tree_or : Data → Result Data JsonErr → Data
tree_or x (Ok t) = t
tree_or x (Err e) = x

abbrev is_read : Result Data JsonErr → Bool
is_read (Ok t) = true
is_read (Err e) = false

not_both : (a : Bool) → a ≡ false → a ≡ true → ⊥
not_both a p q = let e : false ≡ true = sym p ∙ q in cc

one_tree : (b : List ℕ) (t u : Data) → json_read b ≡ Ok t → json_read b ≡ Ok u → t ≡ u
one_tree b t u p q = sym (ap (tree_or t) p) ∙ ap (tree_or t) q

pub no_fault : (b : List ℕ) (t : Data) (e : JsonErr) → json_read b ≡ Ok t → json_read b ≡ Err e → ⊥
no_fault b t e p q = not_both (is_read (json_read b)) (ap is_read q) (ap is_read p)

same_given : (rows : List Row) → IsSchema rows → (n : TypeNo) (b : List ℕ) (v w : Value) → IsGivenAs rows n b v → IsGivenAs rows n b w → v ≡ w
same_given rows schema n b v w one two =
    let test = keys_are_tested rows schema in
    let same = one_tree b one.tree two.tree one.json two.json in
    one_meant rows test.0 schema (plainly n) one.tree v w (one.meant test.0 test.1)
    (subst (λ (t : Data). Meant rows test.0 (plainly n) t w) (sym same) (two.meant test.0 test.1))

-- a value that is given is no data without a meaning
no_meaning : (rows : List Row) → IsSchema rows → (n : TypeNo) (b : List ℕ) (v : Value) → IsGivenAs rows n b v → MeanNothing rows n b → ⊥
no_meaning rows schema n b v given broken =
    let test = keys_are_tested rows schema in
    let same = one_tree b given.tree broken.tree given.json broken.json in
    broken.none.none test.0 test.1 v (subst (λ (t : Data). Meant rows test.0 (plainly n) t v) same (given.meant test.0 test.1))

-- ---- what is made

pub one_made : OneIsMade
one_made h rows schema n b v w d e one two =
    let same = same_given rows schema n b v w one.given two.given in
    let first = one.storable.tree in
    let second = subst (λ (x : Value). represented (whole h) rows (plainly n) x ≡ Some e) (sym same) two.storable.tree in
    (same, same_Some d e (sym first ∙ second))

-- the blocks of a value, bare
pub bare_blocks : (h : List ℕ → List ℕ) (rows : List Row) (n : TypeNo) (v : Value) (d : Data) → spell d ∷ nodes h rows (plainly n) v ≡ blocks_of bare h rows n v d
bare_blocks h rows n v d = ap (λ (bs : List (List ℕ)). spell d ∷ bs) (sym (append-nil (nodes h rows (plainly n) v)))

-- a block that is too long isn't among those that are short enough
short_one : (bs : List (List ℕ)) (block : List ℕ) → AllByRecursion (λ b. length b ≤ longest_block) bs → Contains bs block → longest_block < length block → ⊥
short_one bs block short among long =
    let fits : length block ≤ longest_block = All-contains (λ (b : List ℕ). length b ≤ longest_block) bs block (All-from_recursion (λ (b : List ℕ). length b ≤ longest_block) bs short) among in omega (arith, fits, long)

unrefused : (h : List ℕ → List ℕ) (rows : List Row) (n : TypeNo) (v : Value) (d : Data) (r : Refusal) → Storable bare h rows n v d → ValueHas h rows n v r → ⊥
unrefused h rows n v d R.Json storable cause = cause
unrefused h rows n v d R.Mismatch storable cause = cause
unrefused h rows n v d R.Hole storable cause = not_both (has_hole rows (plainly n) v) (tree_sound h rows (plainly n) v d storable.tree).1 cause
unrefused h rows n v d R.Delimiter storable cause = not_both (breaks_delimiter rows (plainly n) v) (tree_sound h rows (plainly n) v d storable.tree).2 cause
unrefused h rows n v d R.Depth storable cause = cause storable.fits
unrefused h rows n v d R.Exhausted storable cause = not_both (exhausts h rows (plainly n) v) (tree_sound h rows (plainly n) v d storable.tree).3 cause
unrefused h rows n v d R.Size storable cause =
    let same : d ≡ cause.tree = same_Some d cause.tree (sym storable.tree ∙ cause.represented) in
    let among = subst (λ (x : Data). Contains (spell x ∷ nodes h rows (plainly n) v) cause.block) (sym same) cause.among in
    short_one (blocks_of bare h rows n v d) cause.block storable.sized (subst (λ (bs : List (List ℕ)). Contains bs cause.block) (bare_blocks h rows n v d) among) cause.long

one_given : (h : List ℕ → List ℕ) (rows : List Row) → IsSchema rows → (n : TypeNo) (b : List ℕ) (v : Value) (r : Refusal) → IsGivenAs rows n b v → GiveOne h rows n b r → ValueHas h rows n v r
one_given h rows schema n b v r given one = subst (λ (w : Value). ValueHas h rows n w r) (sym (same_given rows schema n b v one.value given one.given)) one.cause

-- a cause that bytes have, which give a value, is one that the value has
given_has : (h : List ℕ → List ℕ) (rows : List Row) → IsSchema rows → (n : TypeNo) (b : List ℕ) (v : Value) (r : Refusal) → IsGivenAs rows n b v → Refuses h rows n b r → ValueHas h rows n v r
given_has h rows schema n b v R.Json given refuses = no_fault b given.tree refuses.0 given.json refuses.1
given_has h rows schema n b v R.Mismatch given refuses = no_meaning rows schema n b v given refuses
given_has h rows schema n b v R.Hole given refuses = one_given h rows schema n b v R.Hole given refuses
given_has h rows schema n b v R.Delimiter given refuses = one_given h rows schema n b v R.Delimiter given refuses
given_has h rows schema n b v R.Depth given refuses = one_given h rows schema n b v R.Depth given refuses
given_has h rows schema n b v R.Exhausted given refuses = one_given h rows schema n b v R.Exhausted given refuses
given_has h rows schema n b v R.Size given refuses = one_given h rows schema n b v R.Size given refuses

pub made_unrefused : MadeAreUnrefused
made_unrefused h rows schema n b v d r makes refuses = unrefused h rows n v d r makes.storable (given_has h rows schema n b v r makes.given refuses)

-- ---- the first cause

-- a cause of the value is one of the bytes
lifted : (h : List ℕ → List ℕ) (rows : List Row) (n : TypeNo) (b : List ℕ) (v : Value) (r : Refusal) → IsGivenAs rows n b v → ValueHas h rows n v r → Refuses h rows n b r
lifted h rows n b v R.Json given cause = absurd cause
lifted h rows n b v R.Mismatch given cause = absurd cause
lifted h rows n b v R.Hole given cause = record { value = v; given = given; cause = cause }
lifted h rows n b v R.Delimiter given cause = record { value = v; given = given; cause = cause }
lifted h rows n b v R.Depth given cause = record { value = v; given = given; cause = cause }
lifted h rows n b v R.Exhausted given cause = record { value = v; given = given; cause = cause }
lifted h rows n b v R.Size given cause = record { value = v; given = given; cause = cause }

pub first_given : (h : List ℕ → List ℕ) (rows : List Row) → IsSchema rows → (n : TypeNo) (b : List ℕ) (v : Value) (r : Refusal) → IsGivenAs rows n b v → IsFirstOf h rows n v r → IsFirst h rows n b r
first_given h rows schema n b v r given first = record {
  cause = lifted h rows n b v r given first.cause;
  first = λ q less refuses. first.first q less (given_has h rows schema n b v q given refuses);
}

-- the refusal in a turn
at_turn : ℕ → Refusal
at_turn k =
    if k == 1 then R.Json else if k == 2 then R.Mismatch else if k == 3 then R.Hole else if k == 4 then R.Delimiter else if k == 5 then R.Depth else if k == 6 then R.Exhausted else R.Size

told_turn : (r : Refusal) → at_turn (turn r) ≡ r
unfolding at_turn
told_turn R.Json = refl
told_turn R.Mismatch = refl
told_turn R.Hole = refl
told_turn R.Delimiter = refl
told_turn R.Depth = refl
told_turn R.Exhausted = refl
told_turn R.Size = refl

by_turn : (h : List ℕ → List ℕ) (rows : List Row) (n : TypeNo) (b : List ℕ) (q r : Refusal) → IsFirst h rows n b q → IsFirst h rows n b r → (turn q ≡ turn r) ⊎ ((turn q < turn r) ⊎ (turn r < turn q)) → q ≡ r
by_turn h rows n b q r one two (inl same) = sym (told_turn q) ∙ (ap at_turn same ∙ told_turn r)
by_turn h rows n b q r one two (inr (inl less)) = absurd (two.first q less one.cause)
by_turn h rows n b q r one two (inr (inr less)) = absurd (one.first r less two.cause)

pub one_first : OneIsFirst
one_first h rows n b q r one two = by_turn h rows n b q r one two (cases_order (turn q) (turn r))
