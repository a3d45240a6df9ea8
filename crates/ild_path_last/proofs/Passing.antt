-- The pairs of a struct's fields, passed over field by field.
use Rattle.std.proofs.Common.{◌≡◌, ◌<◌, ◌≤◌, ◌+◌, ◌-◌, ◌^◌, min, ℕ, zero, suc, List, [], ◌∷◌, ◌++◌, Bool, true, false, cond, drop, get_or, length, Option, Some, None, refl, sym, ◌∙◌, ap, subst, arith}
use Rattle.std.specs.Prelude.{is_some}
use Rattle.std.proofs.lemmas.Option.{same_Some, none-some}
use Rattle.ild_cbor.specs.declared.items.Items.{Items}
use Rattle.ild_splice_changes.proofs.Maps.{own_text}
use Rattle.ild_data.specs.Data.{Data}
use Rattle.ild_data.specs.Key.{same_text, value_at}
use Rattle.ild_path_changes.proofs.Datas.{written_entries}
use Rattle.ild_path_changes.proofs.Fields.{written-at}
use Rattle.ild_path_changes.proofs.Lifting.{written_is}
use Rattle.ild_path_changes.specs.Pairs.{pair_if}
use Rattle.ild_path_changes.specs.Places.{field_data, field_named, field_place, left_out, written, written_before}
use Rattle.ild_schema.specs.Clear.{AreNamesApart}
use Rattle.ild_schema.specs.Marks.{field_text}
use Rattle.ild_schema.specs.declared.def.Field.{Field}
use Rattle.ild_typed.specs.Fields.{field_entries}
use Rattle.ild_path_last.specs.inside.Seats.{SeatIsBehind}
use Rattle.ild_path_steps.proofs.Pairing.{few_pairs, seat_of}
use Rattle.ild_path_steps.specs.Seats.{HasPairs, IsSeat}

no_pass : {A : Type 0} (k : List ℕ) (es : List (List ℕ × Data)) (t : Items) → value_at k es ≡ None → SeatIsBehind k es (Some t) → A
no_pass k [] t h p = absurd p
no_pass k (e ∷ es) t h p = absurd (none-some e.1 (sym h ∙ ap (λ b. cond b (Some e.1) (value_at k es)) p.0))

own_false : {A : Type 0} (k : List ℕ) → same_text k k ≡ false → A
own_false {A = A} k h = differ (sym (own_text k) ∙ h) where
  differ : true ≡ false → A
  differ p = absurd cc

none_written : (k : List ℕ) (w : Option Data) (rest : List (List ℕ × Data)) → SeatIsBehind k (pair_if k w ++ rest) None → false ≡ is_some w
none_written k None rest p = refl
none_written k (Some y) rest p = own_false k p

some_written : (k : List ℕ) (es : List (List ℕ × Data)) (t : Items) (w : Option Data) → value_at k es ≡ w → SeatIsBehind k es (Some t) → true ≡ is_some w
some_written k es t None e p = no_pass k es t e p
some_written k es t (Some y) e p = refl

pub drop_first : {A : Type 0} (xs : List A) (i : ℕ) (x : A) → i < length xs → drop i xs ≡ get_or xs i x ∷ drop (suc i) xs
drop_first [] i x h = absurd (omega (arith, h))
drop_first (y ∷ ys) zero x h = refl
drop_first (y ∷ ys) (suc i) x h = drop_first ys i x (omega (arith, h))

module _ (k : List ℕ) (g : Field) (before number : ℕ) (held : Option Data) where
  -- what is left where so many fields are passed over, and so many pairs
  pub record Walks (fs : List Field) (ds : List (Option Data)) (i n : ℕ) (s : Items) : Type 0 where
    pub left : HasPairs s (written_entries left_out fs ds)
    pub count : n + written_before left_out k fs ds ≡ before
    pub short : n + length (written_entries left_out fs ds) ≤ 4194304
    pub apart : AreNamesApart fs
    pub named : field_named k fs ≡ Some g
    pub held_is : field_data k fs ds ≡ held
    pub place : i + field_place k fs ≡ number
    pub same : length fs ≡ length ds

  -- behind a field, where its pair was the first or not
  abbrev After : List Field → List (Option Data) → ℕ → ℕ → Items → Option Items → Type 0
  After fs ds i n s None = Walks fs ds i n s
  After fs ds i n s (Some t) = (m : ℕ) → m ≡ min (n + 1) (2 ^ 64 - 1) → Walks fs ds i m t

  module _ (f : Field) (fs : List Field) (o : Option Data) (ds : List (Option Data)) (i n : ℕ) (s : Items) where
    other : Walks (f ∷ fs) (o ∷ ds) i n s → i < number → same_text k f.name ≡ false
    other w less = by (same_text k f.name) refl w.place where
      by : (b : Bool) → same_text k f.name ≡ b → i + cond b 0 (suc (field_place k fs)) ≡ number → same_text k f.name ≡ false
      by true e place = absurd (omega (arith, place, less))
      by false e place = e

    own_value : AreNamesApart (f ∷ fs) → value_at (field_text f) (written_entries left_out (f ∷ fs) (o ∷ ds)) ≡ written left_out f o
    own_value apart =
        written-at left_out f.name (f ∷ fs) (o ∷ ds) f apart (ap (λ b. cond b (Some f) (field_named f.name fs)) (own_text f.name))
        ∙ ap (λ b. written left_out f (cond b o (field_data f.name fs ds))) (own_text f.name)

    goes : (w : Option Data) (r : Option Items) → written left_out f o ≡ w → same_text k f.name ≡ false → Walks (f ∷ fs) (o ∷ ds) i n s → SeatIsBehind (field_text f) (pair_if (field_text f) w ++ written_entries left_out fs ds) r
        → value_at (field_text f) (pair_if (field_text f) w ++ written_entries left_out fs ds) ≡ w → After fs ds (suc i) n s r
    goes None None is apart_name at p v =
        let none : cond (same_text k f.name) 0 (length (pair_if (field_text f) (written left_out f o)) + written_before left_out k fs ds) ≡ 0 + written_before left_out k fs ds =
        λ j. cond (apart_name j) 0 (length (pair_if (field_text f) (is j)) + written_before left_out k fs ds) in
        let more : cond (same_text k f.name) 0 (suc (field_place k fs)) ≡ suc (field_place k fs) = ap (λ b. cond b 0 (suc (field_place k fs))) apart_name in
        let entries : pair_if (field_text f) (written left_out f o) ++ written_entries left_out fs ds ≡ written_entries left_out fs ds = ap (λ x. pair_if (field_text f) x ++ written_entries left_out fs ds) is in
        let long = ap length entries in
        let same = at.same in
        record {
          left = subst (HasPairs s) entries at.left;
          count = omega (arith, at.count, none);
          short = omega (arith, at.short, long);
          apart = at.apart.1;
          named = sym (ap (λ b. cond b (Some f) (field_named k fs)) apart_name) ∙ at.named;
          held_is = sym (ap (λ b. cond b o (field_data k fs ds)) apart_name) ∙ at.held_is;
          place = omega (arith, at.place, more);
          same = omega (arith, same);
        }
    goes None (Some t) is apart_name at p v = no_pass (field_text f) (written_entries left_out fs ds) t v p
    goes (Some y) None is apart_name at p v = own_false (field_text f) p
    goes (Some y) (Some t) is apart_name at p v = λ m next.
        let one : cond (same_text k f.name) 0 (length (pair_if (field_text f) (written left_out f o)) + written_before left_out k fs ds) ≡ 1 + written_before left_out k fs ds =
        λ j. cond (apart_name j) 0 (length (pair_if (field_text f) (is j)) + written_before left_out k fs ds) in
        let more : cond (same_text k f.name) 0 (suc (field_place k fs)) ≡ suc (field_place k fs) = ap (λ b. cond b 0 (suc (field_place k fs))) apart_name in
        let long : length (pair_if (field_text f) (written left_out f o) ++ written_entries left_out fs ds) ≡ suc (length (written_entries left_out fs ds)) =
        ap (λ x. length (pair_if (field_text f) x ++ written_entries left_out fs ds)) is in
        let m_is : m ≡ n + 1 = omega (arith, next, at.short) in
        let same = at.same in
        record {
          left = p.1;
          count = omega (arith, at.count, one, m_is);
          short = omega (arith, at.short, long, m_is);
          apart = at.apart.1;
          named = sym (ap (λ b. cond b (Some f) (field_named k fs)) apart_name) ∙ at.named;
          held_is = sym (ap (λ b. cond b o (field_data k fs ds)) apart_name) ∙ at.held_is;
          place = omega (arith, at.place, more);
          same = omega (arith, same);
        }

    over : (r : Option Items) → Walks (f ∷ fs) (o ∷ ds) i n s → i < number → ((es : List (List ℕ × Data)) → HasPairs s es → SeatIsBehind (field_text f) es r) → After fs ds (suc i) n s r
    over r at less passes =
        goes (written left_out f o) r refl (other at less) at (passes (written_entries left_out (f ∷ fs) (o ∷ ds)) at.left) (own_value at.apart)

  module _ (all : List Field) (os : List (Option Data)) (i n : ℕ) (s : Items) (f : Field) (name : List ℕ) (r : Option Items) where
    pub next : Walks (drop i all) (drop i os) i n s → i < number → i < length all → length all ≡ length os → f ≡ get_or all i f → name ≡ field_text f
        → ((es : List (List ℕ × Data)) → HasPairs s es → SeatIsBehind name es r) → After (drop (i + 1) all) (drop (i + 1) os) (i + 1) n s r
    next at less within same is called passes =
        let fs : drop i all ≡ f ∷ drop (suc i) all = drop_first all i f within ∙ ap (λ x. x ∷ drop (suc i) all) (sym is) in
        let ds : drop i os ≡ get_or os i None ∷ drop (suc i) os = drop_first os i None (omega (arith, within, same)) in
        let here : Walks (f ∷ drop (suc i) all) (get_or os i None ∷ drop (suc i) os) i n s = subst (λ x. Walks x (get_or os i None ∷ drop (suc i) os) i n s) fs (subst (λ x. Walks (drop i all) x i n s) ds at) in
        let one : suc i ≡ i + 1 = omega arith in
        subst (λ j. After (drop j all) (drop j os) j n s r) one (over f (drop (suc i) all) (get_or os i None) (drop (suc i) os) i n s r here less (λ es h. subst (λ x. SeatIsBehind x es r) called (passes es h)))

  pub ends_there : (fs : List Field) (ds : List (Option Data)) (i n : ℕ) (s t : Items) → Walks fs ds i n s → number ≤ i → ((es : List (List ℕ × Data)) → HasPairs s es → SeatIsBehind (field_text g) es (Some t)) → IsSeat (seat_of n true) before (written left_out g held)
  ends_there [] ds i n s t at less passes = absurd (none-some g at.named)
  ends_there (f ∷ fs) [] i n s t at less passes = absurd (omega (arith, at.same))
  ends_there (f ∷ fs) (o ∷ ds) i n s t at less passes = by (same_text k f.name) refl at.count at.place where
    by : (b : Bool) → same_text k f.name ≡ b → n + cond b 0 (length (pair_if (field_text f) (written left_out f o)) + written_before left_out k fs ds) ≡ before → i + cond b 0 (suc (field_place k fs)) ≡ number
        → IsSeat (seat_of n true) before (written left_out g held)
    by true e count place =
        record {
          place_is = omega (arith, count);
          there_is = some_written (field_text g) (written_entries left_out (f ∷ fs) (o ∷ ds)) t (written left_out g held)
              (written-at left_out k (f ∷ fs) (o ∷ ds) g at.apart at.named ∙ ap (written left_out g) at.held_is) (passes (written_entries left_out (f ∷ fs) (o ∷ ds)) at.left);
        }
    by false e count place = absurd (omega (arith, place, less))

  pub ends_gone : (fs : List Field) (ds : List (Option Data)) (i n : ℕ) (s : Items) → Walks fs ds i n s → number ≤ i → ((es : List (List ℕ × Data)) → HasPairs s es → SeatIsBehind (field_text g) es None) → IsSeat (seat_of n false) before (written left_out g held)
  ends_gone [] ds i n s at less passes = absurd (none-some g at.named)
  ends_gone (f ∷ fs) [] i n s at less passes = absurd (omega (arith, at.same))
  ends_gone (f ∷ fs) (o ∷ ds) i n s at less passes = by (same_text k f.name) refl at.count at.place at.named at.held_is where
    by : (b : Bool) → same_text k f.name ≡ b → n + cond b 0 (length (pair_if (field_text f) (written left_out f o)) + written_before left_out k fs ds) ≡ before → i + cond b 0 (suc (field_place k fs)) ≡ number
        → cond b (Some f) (field_named k fs) ≡ Some g → cond b o (field_data k fs ds) ≡ held → IsSeat (seat_of n false) before (written left_out g held)
    by true e count place named held_is =
        let is : f ≡ g = same_Some f g named in
        let own : SeatIsBehind (field_text f) (pair_if (field_text f) (written left_out f o) ++ written_entries left_out fs ds) None =
        subst (λ x. SeatIsBehind (field_text x) (pair_if (field_text f) (written left_out f o) ++ written_entries left_out fs ds) None) (sym is) (passes (written_entries left_out (f ∷ fs) (o ∷ ds)) at.left) in
        record {
          place_is = omega (arith, count);
          there_is = none_written (field_text f) (written left_out f o) (written_entries left_out fs ds) own ∙ (λ j. is_some (written left_out (is j) (held_is j)));
        }
    by false e count place named held_is = absurd (omega (arith, place, less))

pub drop_none : {A : Type 0} (xs : List A) → xs ≡ drop 0 xs
drop_none [] = refl
drop_none (x ∷ xs) = refl

pub starts : (k : List ℕ) (g : Field) (fs : List Field) (ds : List (Option Data)) (es : List (List ℕ × Data)) (number : ℕ) (s : Items) → field_entries fs ds ≡ Some es → HasPairs s es → AreNamesApart fs → field_named k fs ≡ Some g
    → number ≡ field_place k fs → Walks k g (written_before left_out k fs ds) number (field_data k fs ds) (drop 0 fs) (drop 0 ds) 0 0 s
starts k g fs ds es number s made h apart named place =
    let w = written_is fs ds es made in
    let few = few_pairs es s h in
    let long : length es ≡ length (written_entries left_out fs ds) = ap length w.same in
    let at : Walks k g (written_before left_out k fs ds) number (field_data k fs ds) fs ds 0 0 s = record {
      left = subst (HasPairs s) w.same h;
      count = omega arith;
      short = omega (arith, few, long);
      apart = apart;
      named = named;
      held_is = refl;
      place = omega (arith, place);
      same = w.count;
    } in
    subst (λ x. Walks k g (written_before left_out k fs ds) number (field_data k fs ds) x (drop 0 ds) 0 0 s) (drop_none fs)
    (subst (λ x. Walks k g (written_before left_out k fs ds) number (field_data k fs ds) fs x 0 0 s) (drop_none ds) at)
