-- A value is refused exactly where a store can't hold it, and for the first cause.
use Rattle.std.proofs.Common.{cond, ◌≡◌, ℕ, ◌≤◌, List, [], ◌∷◌, length, Bool, true, false, not, Option, Some, None, refl, ap, sym, ◌∙◌, arith}
use Rattle.std.specs.Prelude.{◌↔◌, ◌&&◌, nat_le, Result, Ok, Err}
use Rattle.std.specs.List.{AllByRecursion, list_all}
use Rattle.std.specs.Option.{option_map_or}
use Rattle.std.proofs.lemmas.Option.{none-some}
use Rattle.std.proofs.lemmas.Bool.{and_parts}
use Rattle.ild_data.specs.Data.{Data}
use Rattle.ild_data.specs.Limits.{longest_block}
use Rattle.ild_schema.specs.declared.number.TypeNo.{TypeNo}
use Rattle.ild_schema.specs.declared.row.Row.{Row}
use Rattle.ild_schema.specs.Slots.{plainly}
use Rattle.ild_schema.specs.Value.{Value}
use Rattle.ild_script.specs.declared.reply.No.{No}
use Rattle.ild_script.specs.declared.reply.No.TheVariants as N
use Rattle.ild_typed.specs.Fits.{Fits}
use Rattle.ild_typed.specs.Hamt.{whole}
use Rattle.ild_typed.specs.Judged.{is_hole, breaks, has_hole, breaks_delimiter, exhausts}
use Rattle.ild_typed.specs.Represented.{represented}
use Rattle.ild_typed.specs.Schema.{IsSchema}
use Rattle.ild_typed.specs.Stands.{Frame, Storable, blocks_of}
use Rattle.ild_typed.specs.Typed.{Typed}
use Rattle.ild_typed.proofs.Judging.{tree_sound}
use Rattle.ild_typed.proofs.MakingValues.{can_be_held}
use Rattle.ild_path_edits.specs.Along.{IsFree, IsFirst}
use Rattle.ild_path_edits.specs.Edit.{line_change}
use Rattle.ild_path_edits.specs.Judged.{Tests, AreTests, are_sized, judged, unless_judged, judged_result}
use Rattle.ild_path_edits.specs.JudgedLaws.{UnrefusedAreStorable, of_three, JudgedInOrder, EditedAreStorable}
use Rattle.ild_path_edits.proofs.KeepTyped.{lines_keep_typed}

true_false : true ≡ false → ⊥
true_false h = absurd cc

pub small_of : (n m : ℕ) → nat_le n m ≡ true → n ≤ m
small_of n m h = grind (arith, h)

of_small : (n m : ℕ) → n ≤ m → nat_le n m ≡ true
of_small n m h = grind (arith, h)

sized_of : (bs : List (List ℕ)) → list_all (λ b. nat_le (length b) longest_block) bs ≡ true → AllByRecursion (λ b. length b ≤ longest_block) bs
sized_of [] h = tt
sized_of (b ∷ bs) h = let x = and_parts (nat_le (length b) longest_block) (list_all (λ b. nat_le (length b) longest_block) bs) h in (small_of (length b) longest_block x.0, sized_of bs x.1)

of_sized : (bs : List (List ℕ)) → AllByRecursion (λ b. length b ≤ longest_block) bs → list_all (λ b. nat_le (length b) longest_block) bs ≡ true
of_sized [] h = refl
of_sized (b ∷ bs) h = λ i. of_small (length b) longest_block h.0 i && of_sized bs h.1 i

-- five tests in their order
abbrev first_of : Bool → Bool → Bool → Bool → Bool → Option No
first_of a b c d e = cond a (Some N.Hole) (cond b (Some N.Delimiter) (cond c (Some N.Depth) (cond d (Some N.Exhausted) (cond e (Some N.Size) None))))

none_of : (a b c d e : Bool) → first_of a b c d e ≡ None → (a ≡ false) × (b ≡ false) × (c ≡ false) × (d ≡ false) × (e ≡ false)
none_of true b c d e h = absurd (none-some _ (sym h))
none_of false true c d e h = absurd (none-some _ (sym h))
none_of false false true d e h = absurd (none-some _ (sym h))
none_of false false false true e h = absurd (none-some _ (sym h))
none_of false false false false true h = absurd (none-some _ (sym h))
none_of false false false false false h = (refl, refl, refl, refl, refl)

of_none : (a b c d e : Bool) → a ≡ false → b ≡ false → c ≡ false → d ≡ false → e ≡ false → first_of a b c d e ≡ None
of_none a b c d e p q r s t = λ i. first_of (p i) (q i) (r i) (s i) (t i)

not_true : (b : Bool) → not b ≡ false → b ≡ true
not_true true h = refl
not_true false h = absurd (true_false h)

module _ (f : Frame) (h : List ℕ → List ℕ) (rows : List Row) (t : Tests) (tests : AreTests rows t) (n : TypeNo) (v : Value) (typed : Typed rows (plainly n) v) where
  abbrev fits : Bool
  fits = t.fits f.room (plainly n) v

  sized_by : (d : Data) → represented (whole h) rows (plainly n) v ≡ Some d → are_sized f h rows n v ≡ true → AllByRecursion (λ b. length b ≤ longest_block) (blocks_of f h rows n v d)
  sized_by d e s =
      sized_of (blocks_of f h rows n v d) (sym (ap (λ o. option_map_or (λ d. list_all (λ b. nat_le (length b) longest_block) (blocks_of f h rows n v d)) o true) e) ∙ s)

  by_sized : (d : Data) → represented (whole h) rows (plainly n) v ≡ Some d → AllByRecursion (λ b. length b ≤ longest_block) (blocks_of f h rows n v d) → are_sized f h rows n v ≡ true
  by_sized d e s = ap (λ o. option_map_or (λ d. list_all (λ b. nat_le (length b) longest_block) (blocks_of f h rows n v d)) o true) e ∙ of_sized (blocks_of f h rows n v d) s

  in_room : (fits ≡ true) ↔ Fits rows f.room (plainly n) v
  in_room = tests.rooms f.room (plainly n) v (typed.0, typed.1)

  held : IsSchema rows → judged f h rows t n v ≡ None → (d : Data) × Storable f h rows n v d
  held schema e =
      let x = none_of (has_hole rows (plainly n) v) (breaks_delimiter rows (plainly n) v) (not fits) (exhausts h rows (plainly n) v) (not (are_sized f h rows n v)) e in
      can_be_held f h rows schema n v typed x.0 x.1 (in_room.0 (not_true fits x.2)) x.3 (λ d e. sized_by d e (not_true (are_sized f h rows n v) x.4))

  -- the first of three causes, by their tests
  in_order : (a b c d e : Bool) → has_hole rows (plainly n) v ≡ a → breaks_delimiter rows (plainly n) v ≡ b → not fits ≡ c
      → IsFirst (IsFree is_hole rows (plainly n) v) (IsFree (breaks rows) rows (plainly n) v) (Fits rows f.room (plainly n) v) (of_three (first_of a b c d e))
  in_order true b c d e p q r = λ g. true_false (sym p ∙ g)
  in_order false true c d e p q r = (p, λ g. true_false (sym q ∙ g))
  in_order false false true d e p q r = (p, q, λ g. true_false (sym r ∙ ap not (in_room.1 g)))
  in_order false false false true e p q r = (p, q, in_room.0 (not_true fits r))
  in_order false false false false true p q r = (p, q, in_room.0 (not_true fits r))
  in_order false false false false false p q r = (p, q, in_room.0 (not_true fits r))

pub judged_in_order : JudgedInOrder
judged_in_order f h rows t tests n v typed =
    in_order f h rows t tests n v typed (has_hole rows (plainly n) v) (breaks_delimiter rows (plainly n) v) (not (t.fits f.room (plainly n) v)) (exhausts h rows (plainly n) v) (not (are_sized f h rows n v)) refl refl refl

pub unrefused_are_storable : UnrefusedAreStorable
unrefused_are_storable f h rows t schema tests n v typed = (held f h rows t tests n v typed schema, λ s. back s.0 s.1)
  where
    back : (d : Data) → Storable f h rows n v d → judged f h rows t n v ≡ None
    back d s =
        let x = tree_sound h rows (plainly n) v d s.tree in
        of_none (has_hole rows (plainly n) v) (breaks_delimiter rows (plainly n) v) (not (t.fits f.room (plainly n) v)) (exhausts h rows (plainly n) v) (not (are_sized f h rows n v)) x.1 x.2
        (ap not ((in_room f h rows t tests n v typed).1 s.fits)) x.3 (ap not (by_sized f h rows t tests n v typed d s.tree s.sized))

-- ---- edits

unless : (c d : Value) (o : Option No) → unless_judged d o ≡ Ok c → (d ≡ c) × (o ≡ None)
unless c d None h = (ok_same d c h, refl)
  where
    ok_same : (v w : Value) → ◌≡◌ {A = Result Value No} (Ok v) (Ok w) → v ≡ w
    ok_same v w h = cc
unless c d (Some r) h = absurd (wrong h)
  where
    wrong : ◌≡◌ {A = Result Value No} (Err r) (Ok c) → ⊥
    wrong h = absurd cc

judged_ok : (f : Frame) (h : List ℕ → List ℕ) (rows : List Row) (t : Tests) (n : TypeNo) (r : Result Value No) (c : Value) → judged_result f h rows t n r ≡ Ok c → (r ≡ Ok c) × (judged f h rows t n c ≡ None)
judged_ok f h rows t n (Err e) c g = absurd (wrong g)
  where
    wrong : ◌≡◌ {A = Result Value No} (Err e) (Ok c) → ⊥
    wrong g = absurd cc
judged_ok f h rows t n (Ok d) c g = let x = unless c d (judged f h rows t n d) g in (ap Ok x.0, ap (judged f h rows t n) (sym x.0) ∙ x.1)

pub edited_are_storable : EditedAreStorable
edited_are_storable f h rows t schema tests read n v e c texts trees is g =
    let x = judged_ok f h rows t n (line_change rows t.is_key read (plainly n, v) e) c g in
    let typed = lines_keep_typed rows t.is_key schema tests.keys read (plainly n, v) e c texts trees is x.0 in
    (unrefused_are_storable f h rows t schema tests n c typed).0 x.1
