-- Which parts are written: those whose names stand among entries, and those at the places of a list.
use Rattle.std.proofs.Common.{◌≡◌, ℕ, zero, suc, ◌+◌, ◌<◌, ◌≤◌, List, [], ◌∷◌, length, Bool, true, false, cond, ◌||◌, not, Option, Some, None, refl, sym, ◌∙◌, ap, subst, arith}
use Rattle.std.specs.Prelude.{nat_eq, slice_get}
use Rattle.std.specs.List.{list_any, AllByRecursion}
use Rattle.std.specs.Cmp.Lexicographic.{same_text as text_same}
use Rattle.std.proofs.lemmas.Option.{same_Some, none-some}
use Rattle.std.proofs.lemmas.Bool.{eqb-true, or_parts}
use Rattle.ild_data.proofs.AllOf.{all_at}
use Rattle.ild_data.proofs.Gets.{got_below}
use Rattle.ild_data.specs.Data.{Data}
use Rattle.ild_data.specs.Key.{same_text, value_at}
use Rattle.ild_schema.specs.Clear.{AreNamesApart, IsRequired}
use Rattle.ild_schema.specs.Marks.{field_text}
use Rattle.ild_schema.specs.declared.def.Field.{Field}
use Rattle.ild_typed.specs.Fields.{is_implicit, are_absent, tuple_items}
use Rattle.ild_typed.specs.Named.{names, is_among, has_twice}
use Rattle.ild_typed.specs.StructWhy.{has_stranger, is_name_of, place_of}
use Rattle.ild_typed.proofs.Basics.{map_from, true_from}
use Rattle.ild_typed.proofs.Cleans.{never}
use Rattle.ild_typed.proofs.Entries.{same_text_self}
use Rattle.ild_struct.specs.Present.{ArePresent, ComeOnce, numbered}
use Rattle.ild_layer_fields.specs.Entries.{by_place}
use Rattle.ild_struct.specs.inside.Stepping.{Written}
use Rattle.ild_struct.specs.inside.Reading.{shown}
use Rattle.ild_struct.proofs.Looking.{Keyed, Placed}
use Rattle.ild_layer_fields.proofs.Placing.{name_at, text_turn}

-- ---- by names

-- the field that a name is of
record NameOf (fs : List Field) (k : List ℕ) : Type 0 where
  field : Field
  there : slice_get fs (place_of fs k) ≡ Some field
  name : field_text field ≡ k
  within : place_of fs k < length fs

name_of : (fs : List Field) (k : List ℕ) → not (list_any (is_name_of k) fs) ≡ false → NameOf fs k
name_of [] k known = absurd (never known)
name_of (f ∷ fs) k known = by (name_of fs k) (is_name_of k f) refl known where
  by : (not (list_any (is_name_of k) fs) ≡ false → NameOf fs k) → (b : Bool) → is_name_of k f ≡ b → not (b || list_any (is_name_of k) fs) ≡ false → NameOf (f ∷ fs) k
  by rest true is h =
      let place : place_of (f ∷ fs) k ≡ zero = ap (λ b. cond b zero (suc (place_of fs k))) is in
      record { field = f; there = ap (slice_get (f ∷ fs)) place; name = text_same (field_text f) k (sym is); within = omega (arith, place) }
  by rest false is h =
      let x = rest h in
      let place : place_of (f ∷ fs) k ≡ suc (place_of fs k) = ap (λ b. cond b zero (suc (place_of fs k))) is in
      record { field = x.field; there = ap (slice_get (f ∷ fs)) place ∙ x.there; name = x.name; within = omega (arith, place, x.within) }

-- an entry is the one that is found under its name
past_head : (k : List ℕ) (d : Data) (e : List ℕ × Data) (es : List (List ℕ × Data)) → same_text k e.0 ≡ false → value_at k es ≡ Some d → value_at k (e ∷ es) ≡ Some d
past_head k d e es other found = ap (λ b. cond b (Some e.1) (value_at k es)) other ∙ found

found_past : (e : List ℕ × Data) (whole : List (List ℕ × Data)) (es : List (List ℕ × Data)) → is_among e.0 (names es) ≡ false
    → AllByRecursion (λ (x : List ℕ × Data). value_at x.0 whole ≡ Some x.1) es → AllByRecursion (λ (x : List ℕ × Data). value_at x.0 (e ∷ whole) ≡ Some x.1) es
found_past e whole [] other all = tt
found_past e whole (x ∷ es) other all =
    let o = or_parts (same_text e.0 x.0) (is_among e.0 (names es)) other in
    (past_head x.0 x.1 e whole (sym (text_turn e.0 x.0) ∙ o.0) all.0, found_past e whole es o.1 all.1)

pub each_found : (es : List (List ℕ × Data)) → has_twice (names es) ≡ false → AllByRecursion (λ (x : List ℕ × Data). value_at x.0 es ≡ Some x.1) es
each_found [] once = tt
each_found (e ∷ es) once =
    let o = or_parts (is_among e.0 (names es)) (has_twice (names es)) once in
    (ap (λ b. cond b (Some e.1) (value_at e.0 es)) (same_text_self e.0), found_past e es es o.0 (each_found es o.1))

-- what is found is an entry
record EntryAt (es : List (List ℕ × Data)) (k : List ℕ) (d : Data) : Type 0 where
  at : ℕ
  there : slice_get es at ≡ Some (k, d)

entry_at : (es : List (List ℕ × Data)) (k : List ℕ) (d : Data) → value_at k es ≡ Some d → EntryAt es k d
entry_at [] k d found = absurd (none-some d found)
entry_at (e ∷ es) k d found = by (entry_at es k d) (same_text k e.0) refl found where
  by : (value_at k es ≡ Some d → EntryAt es k d) → (b : Bool) → same_text k e.0 ≡ b → cond b (Some e.1) (value_at k es) ≡ Some d → EntryAt (e ∷ es) k d
  by rest true is h = record { at = zero; there = ap (λ l. Some (l, e.1)) (sym (text_same k e.0 (sym is))) ∙ ap (λ v. Some (k, v)) (same_Some e.1 d h) }
  by rest false is h = let x = rest h in record { at = suc x.at; there = x.there }

placed_at : (fs : List Field) (es : List (List ℕ × Data)) (n : ℕ) (k : List ℕ) (d : Data) → slice_get es n ≡ Some (k, d) → slice_get (by_place fs es) n ≡ Some (place_of fs k, d)
placed_at fs [] n k d at = absurd (none-some (k, d) at)
placed_at fs (e ∷ es) zero k d at = ap (λ (x : List ℕ × Data). Some (place_of fs x.0, x.1)) (same_Some e (k, d) at)
placed_at fs (e ∷ es) (suc n) k d at = placed_at fs es n k d at

shown_some : (f : Field) (o : Option Data) (d : Data) → shown f o ≡ Some d → o ≡ Some d
shown_some f None d is = absurd (none-some d is)
shown_some f (Some e) d is = by (is_implicit f.implicit e) is where
  by : (b : Bool) → cond b None (Some e) ≡ Some d → Some e ≡ Some d
  by true h = absurd (none-some d h)
  by false h = h

-- two names that are known stand at two places
places_apart : (fs : List Field) (k l : List ℕ) → NameOf fs k → NameOf fs l → same_text k l ≡ false → nat_eq (place_of fs k) (place_of fs l) ≡ false
places_apart fs k l x y other = by (nat_eq (place_of fs k) (place_of fs l)) refl where
  by : (b : Bool) → nat_eq (place_of fs k) (place_of fs l) ≡ b → b ≡ false
  by false e = refl
  by true e =
      let same : x.field ≡ y.field = same_Some x.field y.field (sym x.there ∙ ap (slice_get fs) (eqb-true (place_of fs k) (place_of fs l) e) ∙ y.there) in
      let named : k ≡ l = sym x.name ∙ ap field_text same ∙ y.name in
      sym (same_text_self k) ∙ ap (same_text k) named ∙ other

place_once : (fs : List Field) (e : List ℕ × Data) (es : List (List ℕ × Data)) → NameOf fs e.0 → has_stranger fs (names es) ≡ false → is_among e.0 (names es) ≡ false
    → AllByRecursion (λ (y : ℕ × Data). nat_eq (place_of fs e.0) y.0 ≡ false) (by_place fs es)
place_once fs e [] x known other = tt
place_once fs e (f ∷ es) x known other =
    let o = or_parts (not (list_any (is_name_of f.0) fs)) (has_stranger fs (names es)) known in
    let a = or_parts (same_text e.0 f.0) (is_among e.0 (names es)) other in
    (places_apart fs e.0 f.0 x (name_of fs f.0 o.0) a.0, place_once fs e es x o.1 a.1)

places_once : (fs : List Field) (es : List (List ℕ × Data)) → has_stranger fs (names es) ≡ false → has_twice (names es) ≡ false → ComeOnce (by_place fs es)
places_once fs [] known once = tt
places_once fs (e ∷ es) known once =
    let o = or_parts (not (list_any (is_name_of e.0) fs)) (has_stranger fs (names es)) known in
    let a = or_parts (is_among e.0 (names es)) (has_twice (names es)) once in
    (place_once fs e es (name_of fs e.0 o.0) o.1 a.0, places_once fs es o.1 a.1)

module _ (fs : List Field) (os : List (Option Data)) (es : List (List ℕ × Data)) (apart : AreNamesApart fs)
    (looked : (i : ℕ) (f : Field) → slice_get fs i ≡ Some f → Keyed f os i (value_at (field_text f) es))
  where
    sound_part : (e : List ℕ × Data) → not (list_any (is_name_of e.0) fs) ≡ false → value_at e.0 es ≡ Some e.1 → (slice_get os (place_of fs e.0) ≡ Some (Some e.1)) × (place_of fs e.0 < length fs)
    sound_part e known found =
        let n = name_of fs e.0 known in
        let k = looked (place_of fs e.0) n.field n.there in
        let here : shown n.field k.held ≡ Some e.1 = sym k.looked ∙ ap (λ q. value_at q es) n.name ∙ found in
        (k.at ∙ ap Some (shown_some n.field k.held e.1 here), n.within)

    sound_parts : (qs : List (List ℕ × Data)) → has_stranger fs (names qs) ≡ false → AllByRecursion (λ (x : List ℕ × Data). value_at x.0 es ≡ Some x.1) qs
        → AllByRecursion (λ x. slice_get os x.0 ≡ Some (Some x.1)) (by_place fs qs) × AllByRecursion (λ x. x.0 < length fs) (by_place fs qs)
    sound_parts [] known all = (tt, tt)
    sound_parts (q ∷ qs) known all =
        let o = or_parts (not (list_any (is_name_of q.0) fs)) (has_stranger fs (names qs)) known in
        let one = sound_part q o.0 all.0 in
        let rest = sound_parts qs o.1 all.1 in
        ((one.0, rest.0), (one.1, rest.1))

    whole_part : (i : ℕ) (f : Field) (d : Data) → slice_get fs i ≡ Some f → slice_get os i ≡ Some (Some d) → is_implicit f.implicit d ≡ false → (n : ℕ) × (slice_get (by_place fs es) n ≡ Some (i, d))
    whole_part i f d at held plain =
        let k = looked i f at in
        let same : k.held ≡ Some d = same_Some k.held (Some d) (sym k.at ∙ held) in
        let found : value_at (field_text f) es ≡ Some d = k.looked ∙ ap (shown f) same ∙ ap (λ b. cond b None (Some d)) plain in
        let x = entry_at es (field_text f) d found in
        let place : i ≡ place_of fs (field_text f) = eqb-true i (place_of fs (field_text f)) (name_at fs i f (field_text f) apart at ∙ same_text_self (field_text f)) in
        (x.at, placed_at fs es x.at (field_text f) d x.there ∙ ap (λ (m : ℕ). Some (m, d)) (sym place))

    optional_part : AllByRecursion IsRequired fs → (i : ℕ) (f : Field) (d : Data) → slice_get fs i ≡ Some f → slice_get os i ≡ Some (Some d) → f.optional ≡ true → (n : ℕ) × (slice_get (by_place fs es) n ≡ Some (i, d))
    optional_part required i f d at held optional = whole_part i f d at held (ap (λ o. is_implicit o d) (all_at IsRequired fs i f required at optional))

    pub keyed_written : AllByRecursion IsRequired fs → has_stranger fs (names es) ≡ false → has_twice (names es) ≡ false → Written fs os (by_place fs es)
    keyed_written required known once =
        let s = sound_parts es known (each_found es once) in
        record { present = record { sound = s.0; whole = whole_part; optional = optional_part required; once = places_once fs es known once }; within = s.1 }

-- ---- by places

numbered_all : (P : ℕ × Data → Type 0) (n : ℕ) (ds : List Data) → ((i : ℕ) (d : Data) → slice_get ds i ≡ Some d → P (n + i, d)) → AllByRecursion P (numbered n ds)
numbered_all P n [] each = tt
numbered_all P n (d ∷ ds) each =
    let zero_more : n + zero ≡ n = omega arith in
    (subst (λ m. P (m, d)) zero_more (each zero d refl), numbered_all P (suc n) ds (λ i e at. subst (λ m. P (m, e)) (shift i) (each (suc i) e at)))
  where
    shift : (i : ℕ) → n + suc i ≡ suc n + i
    shift i = omega arith

numbered_at : (n : ℕ) (ds : List Data) (i : ℕ) (d : Data) → slice_get ds i ≡ Some d → slice_get (numbered n ds) i ≡ Some (n + i, d)
numbered_at n [] i d at = absurd (none-some d at)
numbered_at n (e ∷ ds) zero d at =
    let zero_more : n ≡ n + zero = omega arith in
    ap (λ v. Some (n, v)) (same_Some e d at) ∙ ap (λ (m : ℕ). Some (m, d)) zero_more
numbered_at n (e ∷ ds) (suc i) d at =
    let shift : suc n + i ≡ n + suc i = omega arith in
    numbered_at (suc n) ds i d at ∙ ap (λ (m : ℕ). Some (m, d)) shift

numbered_above : (n m : ℕ) (ds : List Data) → n < m → AllByRecursion (λ (y : ℕ × Data). nat_eq n y.0 ≡ false) (numbered m ds)
numbered_above n m [] less = tt
numbered_above n m (d ∷ ds) less = (by (nat_eq n m) refl, numbered_above n (suc m) ds (omega (arith, less))) where
  by : (b : Bool) → nat_eq n m ≡ b → nat_eq n m ≡ false
  by false e = e
  by true e = absurd (omega (arith, less, eqb-true n m e))

numbered_once : (n : ℕ) (ds : List Data) → ComeOnce (numbered n ds)
numbered_once n [] = tt
numbered_once n (d ∷ ds) = (numbered_above n (suc n) ds (omega arith), numbered_once (suc n) ds)

pub placed_written : (fs : List Field) (os : List (Option Data)) (ds : List Data) → length ds ≤ length fs → ((i : ℕ) → i < length fs → Placed os i (slice_get ds i)) → Written fs os (numbered 0 ds)
placed_written fs os ds most there = record { present = present; within = numbered_all (λ x. x.0 < length fs) 0 ds below } where
  below : (i : ℕ) (d : Data) → slice_get ds i ≡ Some d → 0 + i < length fs
  below i d at = let less = got_below ds i d at in omega (arith, most, less)

  sound : (i : ℕ) (d : Data) → slice_get ds i ≡ Some d → slice_get os (0 + i) ≡ Some (Some d)
  sound i d at =
      let p = there (0 + i) (below i d at) in
      let same : 0 + i ≡ i = omega arith in
      p.at ∙ ap Some (sym p.same ∙ ap (slice_get ds) same ∙ at)

  whole : (i : ℕ) (f : Field) (d : Data) → slice_get fs i ≡ Some f → slice_get os i ≡ Some (Some d) → (n : ℕ) × (slice_get (numbered 0 ds) n ≡ Some (i, d))
  whole i f d at held =
      let p = there i (got_below fs i f at) in
      let same : 0 + i ≡ i = omega arith in
      (i, numbered_at 0 ds i d (p.same ∙ same_Some p.held (Some d) (sym p.at ∙ held)) ∙ ap (λ (m : ℕ). Some (m, d)) same)

  present : ArePresent fs os (numbered 0 ds)
  present = record {
    sound = numbered_all (λ x. slice_get os x.0 ≡ Some (Some x.1)) 0 ds sound;
    whole = λ i f d at held plain. whole i f d at held;
    optional = λ i f d at held optional. whole i f d at held;
    once = numbered_once 0 ds;
  }

pub tuple_most : (fs : List Field) (os : List (Option Data)) (ds : List Data) → tuple_items fs os ≡ Some ds → length ds ≤ length fs
tuple_most [] [] ds made = let none = ap length (sym (same_Some [] ds made)) in omega (arith, none)
tuple_most [] (o ∷ os) ds made = absurd (none-some ds made)
tuple_most (f ∷ fs) [] ds made = absurd (none-some ds made)
tuple_most (f ∷ fs) (Some d ∷ os) ds made =
    let x = map_from (λ xs. d ∷ xs) (tuple_items fs os) ds made in
    let less = tuple_most fs os x.item x.there in
    let more = ap length (sym (same_Some (d ∷ x.item) ds x.made)) in
    omega (arith, less, more)
tuple_most (f ∷ fs) (None ∷ os) ds made =
    let x = true_from (are_absent (f ∷ fs) (None ∷ os)) [] ds made in
    let none = ap length (sym x.1) in
    omega (arith, none)
