-- Texts as they are appended part by part: what was appended stands in front of what is still to come.
use Rattle.std.proofs.Common.{◌≡◌, ℕ, zero, suc, ◌+◌, ◌<◌, List, [], ◌∷◌, ◌++◌, length, drop, map, Bool, true, false, cond, ◌&&◌, Option, Some, None, option_map, refl, sym, ◌∙◌, ap, arith, append_assoc, append-nil, length-append}
use Rattle.std.specs.Prelude.{option_and_then}
use Rattle.std.specs.List.{list_all}
use Rattle.std.proofs.lemmas.List.{map-append, length-map}
use Rattle.std.proofs.lemmas.List.Folds.{list_all-append}
use Rattle.std.proofs.Math.Seq.{drop-append_seam}
use Rattle.std.proofs.lemmas.Option.{same_Some, none-some}
use Rattle.ild_schema.specs.declared.def.Field.{Field}
use Rattle.ild_schema.specs.declared.row.Row.{Row}
use Rattle.ild_schema.specs.Joins.{joined, pair_text}
use Rattle.ild_schema.specs.Marks.{field_text}
use Rattle.ild_schema.specs.Value.{Value}
use Rattle.ild_typed.specs.Strings.{cons_both}
use Rattle.ild_typed.specs.Texts.{is_parted, join, join_pairs}
use Rattle.ild_path_text.specs.Left.{between}
use Rattle.ild_path_text.proofs.Drafts.{joined_push}
use Rattle.ild_build.specs.LeftOut.{is_left_out}
use Rattle.ild_build.specs.TextRep.{text_rep, TextAnswer}
use Rattle.ild_build.specs.inside.TextParts.{field_texts, field_pairs, pair_added}

-- ---- texts with delimiters

pub between_first : (delim : List ℕ) (n : ℕ) → n ≡ 0 → between delim n ≡ []
between_first delim zero e = refl
between_first delim (suc n) e = absurd (omega (arith, e))

pub between_later : (delim : List ℕ) (n : ℕ) → 0 < n → between delim n ≡ delim
between_later delim zero h = absurd (omega (arith, h))
between_later delim (suc n) h = refl

-- ---- parts in front of parts

abbrev pub Onto : {A : Type 0} → List A → Option (List A) → Option (List A)
Onto done rest = option_map (λ xs. done ++ xs) rest

onto_none : {A : Type 0} (o : Option (List A)) → o ≡ Onto [] o
onto_none None = refl
onto_none (Some xs) = refl

onto_next : {A : Type 0} (done : List A) (x : A) (rest : Option (List A)) → Onto done (cons_both (Some x) rest) ≡ Onto (done ++ x ∷ []) rest
onto_next done x None = refl
onto_next done x (Some xs) = ap Some (sym (append_assoc done (x ∷ []) xs))

-- ---- joined texts

pub record Joining (whole rest : Option (List (List ℕ))) (delim old now : List ℕ) (count : ℕ) : Type 0 where
  pub done : List (List ℕ)
  pub ahead : whole ≡ Onto done rest
  pub out : now ≡ old ++ joined delim done
  pub counted : length done ≡ count

pub joining_starts : (whole : Option (List (List ℕ))) (delim old : List ℕ) → Joining whole whole delim old old 0
joining_starts whole delim old = record { done = []; ahead = onto_none whole; out = sym (append_nil old); counted = refl }
  where
    append_nil : (xs : List ℕ) → xs ++ [] ≡ xs
    append_nil xs = append-nil xs

pub joining_goes : (whole rest more : Option (List (List ℕ))) (delim old now new t : List ℕ) (n : ℕ) → rest ≡ cons_both (Some t) more → new ≡ now ++ (between delim n ++ t) → Joining whole rest delim old now n → Joining whole more delim old new (n + 1)
joining_goes whole rest more delim old now new t n is added j = record {
  done = j.done ++ t ∷ [];
  ahead = j.ahead ∙ ap (Onto j.done) is ∙ onto_next j.done t more;
  out = added ∙ ap (λ x. x ++ (between delim n ++ t)) j.out ∙ append_assoc old (joined delim j.done) (between delim n ++ t)
      ∙ ap (λ x. old ++ x) (ap (λ k. joined delim j.done ++ (between delim k ++ t)) (sym j.counted) ∙ sym (joined_push delim j.done t));
  counted = length-append j.done (t ∷ []) ∙ ap (λ k. k + 1) j.counted;
}

pub joining_breaks : (whole rest : Option (List (List ℕ))) (delim old now : List ℕ) (n : ℕ) → rest ≡ None → Joining whole rest delim old now n → option_and_then (join delim) whole ≡ None
joining_breaks whole rest delim old now n is j = ap (option_and_then (join delim)) (j.ahead ∙ ap (Onto j.done) is)

-- ---- texts of pairs

pub record Pairing (whole rest : Option (List (List ℕ × List ℕ))) (inner entry old now : List ℕ) (count : ℕ) : Type 0 where
  pub done : List (List ℕ × List ℕ)
  pub ahead : whole ≡ Onto done rest
  pub parted : list_all (is_parted inner) done ≡ true
  pub out : now ≡ old ++ joined entry (map (pair_text inner) done)
  pub counted : length done ≡ count

pub pairing_starts : (whole : Option (List (List ℕ × List ℕ))) (inner entry old : List ℕ) → Pairing whole whole inner entry old old 0
pairing_starts whole inner entry old = record { done = []; ahead = onto_none whole; parted = refl; out = sym (append-nil old); counted = refl }

record PairAdded (before inner key : List ℕ) (o : Option (List ℕ)) (added : List ℕ) : Type 0 where
  text : List ℕ
  there : o ≡ Some text
  parted : is_parted inner (key, text) ≡ true
  out : added ≡ before ++ pair_text inner (key, text)

pair_is : (before inner key : List ℕ) (o : Option (List ℕ)) (added : List ℕ) → option_and_then (pair_added before inner key) o ≡ Some added → PairAdded before inner key o added
pair_is before inner key None added e = absurd (none-some added e)
pair_is before inner key (Some t) added e = by (is_parted inner (key, t)) refl e
  where
    by : (b : Bool) → is_parted inner (key, t) ≡ b → cond b (Some (before ++ pair_text inner (key, t))) None ≡ Some added → PairAdded before inner key (Some t) added
    by true is h = record { text = t; there = refl; parted = is; out = sym (same_Some (before ++ pair_text inner (key, t)) added h) }
    by false is h = absurd (none-some added h)

pub pairing_goes : (whole rest more : Option (List (List ℕ × List ℕ))) (inner entry old now new key added : List ℕ) (o : Option (List ℕ)) (n : ℕ)
    → rest ≡ cons_both (option_map {U = List ℕ × List ℕ} (λ t. (key, t)) o) more → option_and_then (pair_added (between entry n) inner key) o ≡ Some added → new ≡ now ++ added
    → Pairing whole rest inner entry old now n → Pairing whole more inner entry old new (n + 1)
pairing_goes whole rest more inner entry old now new key added o n is made out p =
    let x = pair_is (between entry n) inner key o added made in
    let one : List ℕ × List ℕ = (key, x.text) in
    record {
      done = p.done ++ one ∷ [];
      ahead = p.ahead ∙ ap (Onto p.done) (is ∙ ap (λ y. cons_both (option_map {U = List ℕ × List ℕ} (λ t. (key, t)) y) more) x.there) ∙ onto_next p.done one more;
      parted = list_all-append (is_parted inner) p.done (one ∷ []) ∙ ap (λ b. b && list_all (is_parted inner) (one ∷ [])) p.parted ∙ ap (λ b. b && true) x.parted;
      out = out ∙ ap (λ y. y ++ added) p.out ∙ append_assoc old (joined entry (map (pair_text inner) p.done)) added
          ∙ ap (λ y. old ++ y) (ap (λ y. joined entry (map (pair_text inner) p.done) ++ y) (x.out ∙ ap (λ k. between entry k ++ pair_text inner one) (sym p.counted ∙ sym (length-map p.done (pair_text inner))))
          ∙ sym (joined_push entry (map (pair_text inner) p.done) (pair_text inner one)) ∙ ap (joined entry) (sym (map-append (pair_text inner) p.done (one ∷ []))));
      counted = length-append p.done (one ∷ []) ∙ ap (λ k. k + 1) p.counted;
    }

-- a pair that is no text, or whose key ends later
list_none : (inner : List ℕ) (done : List (List ℕ × List ℕ)) (one : List ℕ × List ℕ) (xs : List (List ℕ × List ℕ)) → is_parted inner one ≡ false → list_all (is_parted inner) (done ++ one ∷ xs) ≡ false
list_none inner [] one xs e = ap (λ b. b && list_all (is_parted inner) xs) e
list_none inner (p ∷ done) one xs e = ap (λ b. is_parted inner p && b) (list_none inner done one xs e) ∙ never (is_parted inner p)
  where
    never : (b : Bool) → (b && false) ≡ false
    never true = refl
    never false = refl

pub pairing_breaks : (whole rest more : Option (List (List ℕ × List ℕ))) (inner entry old now key : List ℕ) (o : Option (List ℕ)) (n : ℕ)
    → rest ≡ cons_both (option_map {U = List ℕ × List ℕ} (λ t. (key, t)) o) more → option_and_then (pair_added (between entry n) inner key) o ≡ None
    → Pairing whole rest inner entry old now n → option_and_then (join_pairs inner entry) whole ≡ None
pairing_breaks whole rest more inner entry old now key None n is made p = ap (option_and_then (join_pairs inner entry)) (p.ahead ∙ ap (Onto p.done) is)
pairing_breaks whole rest more inner entry old now key (Some t) n is made p = by more refl
  where
    unparted : (b : Bool) → is_parted inner (key, t) ≡ b → cond b (Some (between entry n ++ pair_text inner (key, t))) None ≡ None → is_parted inner (key, t) ≡ false
    unparted true e h = absurd (none-some (between entry n ++ pair_text inner (key, t)) (sym h))
    unparted false e h = e

    by : (m : Option (List (List ℕ × List ℕ))) → more ≡ m → option_and_then (join_pairs inner entry) whole ≡ None
    by None e = ap (option_and_then (join_pairs inner entry)) (p.ahead ∙ ap (Onto p.done) (is ∙ ap (cons_both (Some (key, t))) e))
    by (Some xs) e =
        ap (option_and_then (join_pairs inner entry)) (p.ahead ∙ ap (Onto p.done) (is ∙ ap (cons_both (Some (key, t))) e))
        ∙ ap (λ b. cond b (join entry (map (pair_text inner) (p.done ++ (key, t) ∷ xs))) None) (list_none inner p.done (key, t) xs (unparted (is_parted inner (key, t)) refl made))

pub pairing_stops : (whole rest : Option (List (List ℕ × List ℕ))) (inner entry old now : List ℕ) (n : ℕ) → rest ≡ None → Pairing whole rest inner entry old now n → option_and_then (join_pairs inner entry) whole ≡ None
pairing_stops whole rest inner entry old now n is p = ap (option_and_then (join_pairs inner entry)) (p.ahead ∙ ap (Onto p.done) is)

pub pairing_skips : (whole rest more : Option (List (List ℕ × List ℕ))) (inner entry old now : List ℕ) (n : ℕ) → rest ≡ more → Pairing whole rest inner entry old now n → Pairing whole more inner entry old now n
pairing_skips whole rest more inner entry old now n is p = record { done = p.done; ahead = p.ahead ∙ ap (Onto p.done) is; parted = p.parted; out = p.out; counted = p.counted }

-- ---- what is appended in the end

answer : (made : Option (List ℕ)) (old now text : List ℕ) (b : Bool) → made ≡ cond b (Some text) None → now ≡ old ++ text → TextAnswer made old now b
answer made old now text true is out = record { text = text; is = is; out = out }
answer made old now text false is out = is

pub joining_ends : (whole rest : Option (List (List ℕ))) (delim old now text : List ℕ) (n m : ℕ) (b : Bool) → rest ≡ Some [] → Joining whole rest delim old now n → n ≡ m → text ≡ drop (length old) now
    → ((parts : List (List ℕ)) → joined delim parts ≡ text → length parts ≡ m → join delim parts ≡ cond b (Some text) None) → TextAnswer (option_and_then (join delim) whole) old now b
joining_ends whole rest delim old now text n m b is j count cut says =
    let all : whole ≡ Some (j.done ++ []) = j.ahead ∙ ap (Onto j.done) is in
    let behind : text ≡ joined delim j.done = cut ∙ ap (drop (length old)) j.out ∙ drop-append_seam old (joined delim j.done) in
    answer (option_and_then (join delim) whole) old now text b
    (ap (option_and_then (join delim)) (all ∙ ap Some (append-nil j.done)) ∙ says j.done (sym behind) (j.counted ∙ count)) (j.out ∙ ap (λ x. old ++ x) (sym behind))

pub pairing_ends : (whole rest : Option (List (List ℕ × List ℕ))) (inner entry old now text : List ℕ) (n m : ℕ) (b : Bool) → rest ≡ Some [] → Pairing whole rest inner entry old now n → n ≡ m → text ≡ drop (length old) now
    → ((parts : List (List ℕ)) → joined entry parts ≡ text → length parts ≡ m → join entry parts ≡ cond b (Some text) None) → TextAnswer (option_and_then (join_pairs inner entry) whole) old now b
pairing_ends whole rest inner entry old now text n m b is p count cut says =
    let all : whole ≡ Some (p.done ++ []) = p.ahead ∙ ap (Onto p.done) is in
    let ts = map (pair_text inner) p.done in
    let behind : text ≡ joined entry ts = cut ∙ ap (drop (length old)) p.out ∙ drop-append_seam old (joined entry ts) in
    answer (option_and_then (join_pairs inner entry) whole) old now text b
    (ap (option_and_then (join_pairs inner entry)) (all ∙ ap Some (append-nil p.done)) ∙ ap (λ c. cond c (join entry ts) None) p.parted ∙ says ts (sym behind) (length-map p.done (pair_text inner) ∙ p.counted ∙ count))
    (p.out ∙ ap (λ x. old ++ x) (sym behind))

-- ---- fields and entries in their turn

-- where as many values as fields are asked for
pub texts_apart : (rows : List Row) (fs : List Field) (os : List (Option Value)) → (length os ≡ length fs → ⊥) → field_texts rows fs os ≡ None
texts_apart rows [] [] h = absurd (h refl)
texts_apart rows [] (o ∷ os) h = refl
texts_apart rows (f ∷ fs) [] h = refl
texts_apart rows (f ∷ fs) (None ∷ os) h = refl
texts_apart rows (f ∷ fs) (Some v ∷ os) h = by (text_rep rows f.slot v) (texts_apart rows fs os (λ e. h (ap suc e)))
  where
    by : (o : Option (List ℕ)) → field_texts rows fs os ≡ None → cons_both o (field_texts rows fs os) ≡ None
    by None e = refl
    by (Some t) e = ap (option_map (λ ts. t ∷ ts)) e

pub pairs_apart : (rows : List Row) (fs : List Field) (os : List (Option Value)) → (length os ≡ length fs → ⊥) → field_pairs rows fs os ≡ None
pairs_apart rows [] [] h = absurd (h refl)
pairs_apart rows [] (o ∷ os) h = refl
pairs_apart rows (f ∷ fs) [] h = refl
pairs_apart rows (f ∷ fs) (None ∷ os) h = by f.optional (pairs_apart rows fs os (λ e. h (ap suc e)))
  where
    by : (b : Bool) → field_pairs rows fs os ≡ None → cond b (field_pairs rows fs os) None ≡ None
    by true e = e
    by false e = refl
pairs_apart rows (f ∷ fs) (Some v ∷ os) h = by (is_left_out f.implicit v) (text_rep rows f.slot v) (pairs_apart rows fs os (λ e. h (ap suc e)))
  where
    by : (b : Bool) (o : Option (List ℕ)) → field_pairs rows fs os ≡ None → cond b (field_pairs rows fs os) (cons_both (option_map {U = List ℕ × List ℕ} (λ t. (field_text f, t)) o) (field_pairs rows fs os)) ≡ None
    by true o e = e
    by false None e = refl
    by false (Some t) e = ap (option_map (λ ts. (field_text f, t) ∷ ts)) e
