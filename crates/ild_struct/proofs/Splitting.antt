-- Texts that are split, and those that have no split.
use Rattle.std.proofs.Common.{◌≡◌, ℕ, zero, suc, ◌-◌, ◌<◌, ◌≤◌, List, [], ◌∷◌, length, Bool, true, false, cond, ◌&&◌, not, Option, Some, None, option_map, refl, sym, ◌∙◌, ap, arith}
use Rattle.std.specs.Prelude.{nat_eq}
use Rattle.std.proofs.lemmas.Bool.{eq-eqb, eqb-true}
use Rattle.std.proofs.lemmas.Option.{same_Some, none-some}
use Rattle.ild_data.specs.Data as T
use Rattle.ild_data.specs.Data.{Data}
use Rattle.ild_data.specs.Key.{same_text, value_at}
use Rattle.ild_schema.specs.Clear.{IsGiven}
use Rattle.ild_schema.specs.Joins.{IsJoin, IsPairs}
use Rattle.ild_schema.specs.Prefixes.{begins}
use Rattle.ild_schema.specs.declared.def.Field.{Field}
use Rattle.ild_schema.specs.declared.def.StructForm.TheVariants as S
use Rattle.ild_typed.specs.Cuts as Cuts
use Rattle.ild_typed.specs.Cuts.{parted, cut, begin_first, is_split, is_split_pairs}
use Rattle.ild_typed.specs.Named.{has_twice, names, split_entries, where_some}
use Rattle.ild_typed.specs.Strings.{text_in}
use Rattle.ild_typed.specs.StructWhy.{has_stranger, lacks_field, is_out_of_order, writes_implicit, is_unjoined}
use Rattle.ild_typed.specs.Texts.{join, join_pairs}
use Rattle.ild_typed.specs.Why as W
use Rattle.ild_typed.proofs.CleanTexts.{parted_join, pairs_join, gives_it, given_by}
use Rattle.ild_typed.proofs.JoinLaws.{joins_are_joins, pairs_are_pairs}
use Rattle.ild_layer_fields.specs.Causes.{struct_why, first_cause}
use Rattle.ild_layer_fields.specs.Entries.{text_entries}

-- ---- pairs

pub given_some : (s : List ℕ) → IsGiven s → 0 < length s
given_some [] h = absurd h
given_some (c ∷ s) h = omega arith

pub some_given : (s : List ℕ) → 0 < length s → IsGiven s
some_given [] h = absurd (omega arith)
some_given (c ∷ s) h = tt

-- the first cause by whether there is a split
split_cause : List Field → Bool → Option (List (List ℕ × Data)) → Option W.Why
split_cause fs split o =
    cond (where_some (has_stranger fs) (option_map names o)) (Some W.Name) (cond (where_some (lacks_field fs) (option_map names o)) (Some W.Missing)
    (cond (where_some (is_out_of_order fs) (option_map names o)) (Some W.Order) (cond (where_some has_twice (option_map names o)) (Some W.Repeat)
    (cond (where_some (writes_implicit fs) o) (Some W.Implicit) (cond (not split) (Some W.Delimiter) None)))))

abbrev pub text_cause : List Field → List (List ℕ × Data) → Option W.Why
text_cause fs es = first_cause (has_stranger fs (names es)) (lacks_field fs (names es)) false (is_out_of_order fs (names es)) (has_twice (names es)) (writes_implicit fs es)

module _ (inner entry s : List ℕ) where
  cut_entries : List (List ℕ × Data)
  cut_entries = text_entries (Cuts.pairs_in inner entry s)

  split_why : (fs : List Field) → struct_why (S.StringPairs inner entry) fs (T.text s) ≡ split_cause fs (is_split_pairs inner entry s) (split_entries inner entry (T.text s))
  unfolding split_cause
  split_why fs = refl

  module _ (some : 0 < length inner) (more : 0 < length entry) where
    pub record Split (ps : List (List ℕ × List ℕ)) : Type 0 where
      pub shown : split_entries inner entry (T.text s) ≡ Some (text_entries ps)
      pub why : (fs : List Field) → struct_why (S.StringPairs inner entry) fs (T.text s) ≡ text_cause fs (text_entries ps)

    pub split_there : (ps : List (List ℕ × List ℕ)) → IsPairs inner entry ps s → Split ps
    unfolding split_cause cut_entries
    split_there ps are =
        let joined : join_pairs inner entry ps ≡ Some s = (pairs_are_pairs inner entry ps s some more).1 are in
        let cuts : Cuts.pairs_in inner entry s ≡ ps = pairs_join inner entry (some_given inner some) (some_given entry more) ps s joined in
        let split : is_split_pairs inner entry s ≡ true = gives_it s (join_pairs inner entry (Cuts.pairs_in inner entry s)) (ap (join_pairs inner entry) cuts ∙ joined) in
        let there : split_entries inner entry (T.text s) ≡ Some (text_entries ps) =
        ap (λ b. cond b (Some (text_entries (Cuts.pairs_in inner entry s))) None) split ∙ ap (λ qs. Some (text_entries qs)) cuts in
        record {
          shown = there;
          why = λ fs. split_why fs ∙ ap (λ b. split_cause fs b (split_entries inner entry (T.text s))) split ∙ ap (split_cause fs true) there;
        }

    pub split_not : ((ps : List (List ℕ × List ℕ)) → IsPairs inner entry ps s → ⊥) → (fs : List Field) → struct_why (S.StringPairs inner entry) fs (T.text s) ≡ Some W.Delimiter
    unfolding split_cause
    split_not none fs = by (is_split_pairs inner entry s) refl where
      by : (b : Bool) → is_split_pairs inner entry s ≡ b → struct_why (S.StringPairs inner entry) fs (T.text s) ≡ Some W.Delimiter
      by true is =
          let joined : join_pairs inner entry (Cuts.pairs_in inner entry s) ≡ Some s = given_by s (join_pairs inner entry (Cuts.pairs_in inner entry s)) is in
          absurd (none (Cuts.pairs_in inner entry s) ((pairs_are_pairs inner entry (Cuts.pairs_in inner entry s) s some more).0 joined))
      by false is =
          let there : split_entries inner entry (T.text s) ≡ None = ap (λ b. cond b (Some (text_entries (Cuts.pairs_in inner entry s))) None) is in
          split_why fs ∙ ap (λ b. split_cause fs b (split_entries inner entry (T.text s))) is ∙ ap (split_cause fs false) there

-- what is no text
pub text_kind : (inner entry : List ℕ) (fs : List Field) (t : Data) → None ≡ text_in t → struct_why (S.StringPairs inner entry) fs t ≡ Some W.Kind
text_kind inner entry fs T.null is = refl
text_kind inner entry fs (T.boolean b) is = refl
text_kind inner entry fs (T.integer n) is = refl
text_kind inner entry fs (T.text s) is = absurd (none-some s is)
text_kind inner entry fs (T.bytes s) is = refl
text_kind inner entry fs (T.list ds) is = refl
text_kind inner entry fs (T.map ms) is = refl
text_kind inner entry fs (T.link s) is = refl

pub only_text : (t : Data) (s : List ℕ) → Some s ≡ text_in t → t ≡ T.text s
only_text (T.text a) s e = ap T.text (sym (same_Some s a e))
only_text t s e = absurd (none-some s (sym e))

-- a value by its name
pub text_value_at : (key : List ℕ) (ps : List (List ℕ × List ℕ)) → value_at key (text_entries ps) ≡ option_map T.text (value_at key ps)
text_value_at key [] = refl
text_value_at key (p ∷ ps) = by (same_text key p.0) (text_value_at key ps) where
  by : (b : Bool) → value_at key (text_entries ps) ≡ option_map T.text (value_at key ps)
      → cond b (Some (T.text p.1)) (value_at key (text_entries ps)) ≡ option_map T.text (cond b (Some p.1) (value_at key ps))
  by true rest = refl
  by false rest = rest

-- ---- parts

begun : (c : ℕ) (ps : List (List ℕ)) → 1 ≤ length (begin_first c ps)
begun c [] = omega arith
begun c (p ∷ ps) = omega arith

-- a text has a part
cut_some : (past : ℕ) (delim s : List ℕ) → 1 ≤ length (cut past delim s)
cut_some zero delim [] = omega arith
cut_some (suc past) delim [] = omega arith
cut_some (suc past) delim (c ∷ s) = cut_some past delim s
cut_some zero delim (c ∷ s) = by (begins delim (c ∷ s)) where
  by : (b : Bool) → 1 ≤ length (cond b ([] ∷ cut (length delim - 1) delim s) (begin_first c (cut zero delim s)))
  by true = omega arith
  by false = begun c (cut zero delim s)

module _ (delim s : List ℕ) (some : 0 < length delim) where
  pub record Joined (ps : List (List ℕ)) : Type 0 where
    pub cuts : parted delim s ≡ ps
    pub why : (fs : List Field) → length ps ≡ length fs → struct_why (S.StringJoin delim) fs (T.text s) ≡ None

  pub join_there : (ps : List (List ℕ)) → IsJoin delim ps s → Joined ps
  join_there [] is = absurd (let n : 1 ≤ length {A = List ℕ} [] = is.some in omega arith)
  join_there (p ∷ ps) is =
      let made : join delim (p ∷ ps) ≡ Some s = (joins_are_joins delim (p ∷ ps) s some is.some).1 is in
      let cuts : parted delim s ≡ p ∷ ps = parted_join delim (some_given delim some) p ps s made in
      let split : is_split delim s ≡ true = gives_it s (join delim (parted delim s)) (ap (join delim) cuts ∙ made) in
      record {
        cuts = cuts;
        why = λ fs n.
            let many : nat_eq (length (parted delim s)) (length fs) ≡ true = eq-eqb (length (parted delim s)) (length fs) (ap length cuts ∙ n) in
            let fine : is_unjoined delim (length fs) (T.text s) ≡ false = ap (λ b. not (b && nat_eq (length (parted delim s)) (length fs))) split ∙ ap not many in
            ap (λ b. cond b (Some W.Delimiter) None) fine;
      }

  pub join_not : (fs : List Field) → ((ps : List (List ℕ)) → IsJoin delim ps s → length ps ≡ length fs → ⊥) → struct_why (S.StringJoin delim) fs (T.text s) ≡ Some W.Delimiter
  join_not fs none = by (is_split delim s) refl (nat_eq (length (parted delim s)) (length fs)) refl where
    by : (a : Bool) → is_split delim s ≡ a → (b : Bool) → nat_eq (length (parted delim s)) (length fs) ≡ b → struct_why (S.StringJoin delim) fs (T.text s) ≡ Some W.Delimiter
    by true is true at =
        let made : join delim (parted delim s) ≡ Some s = given_by s (join delim (parted delim s)) is in
        absurd (none (parted delim s) ((joins_are_joins delim (parted delim s) s some (cut_some 0 delim s)).0 made) (eqb-true (length (parted delim s)) (length fs) at))
    by true is false at = ap (λ b. cond (not (b && nat_eq (length (parted delim s)) (length fs))) (Some W.Delimiter) None) is ∙ ap (λ b. cond (not b) (Some W.Delimiter) None) at
    by false is b at = ap (λ a. cond (not (a && nat_eq (length (parted delim s)) (length fs))) (Some W.Delimiter) None) is

pub join_kind : (delim : List ℕ) (fs : List Field) (t : Data) → None ≡ text_in t → struct_why (S.StringJoin delim) fs t ≡ Some W.Kind
join_kind delim fs T.null is = refl
join_kind delim fs (T.boolean b) is = refl
join_kind delim fs (T.integer n) is = refl
join_kind delim fs (T.text s) is = absurd (none-some s is)
join_kind delim fs (T.bytes s) is = refl
join_kind delim fs (T.list ds) is = refl
join_kind delim fs (T.map ms) is = refl
join_kind delim fs (T.link s) is = refl

-- ---- the answers

-- a text of pairs
pub pairs_answer : (inner entry s : List ℕ) (some : 0 < length inner) (more : 0 < length entry) (ps : List (List ℕ × List ℕ)) → IsPairs inner entry ps s → (fs : List Field) (t : Data) → t ≡ T.text s
    → (why : Option W.Why) → why ≡ text_cause fs (text_entries ps) → struct_why (S.StringPairs inner entry) fs t ≡ why
pairs_answer inner entry s some more ps are fs t is why e =
    ap (struct_why (S.StringPairs inner entry) fs) is ∙ (split_there inner entry s some more ps are).why fs ∙ sym e

pub pairs_shown : (inner entry s : List ℕ) (some : 0 < length inner) (more : 0 < length entry) (ps : List (List ℕ × List ℕ)) → IsPairs inner entry ps s → (t : Data) → t ≡ T.text s
    → split_entries inner entry t ≡ Some (text_entries ps)
pairs_shown inner entry s some more ps are t is = ap (split_entries inner entry) is ∙ (split_there inner entry s some more ps are).shown

pub unsplit_answer : (inner entry s : List ℕ) → 0 < length inner → 0 < length entry → ((ps : List (List ℕ × List ℕ)) → IsPairs inner entry ps s → false ≡ true) → (fs : List Field) (t : Data) → t ≡ T.text s
    → struct_why (S.StringPairs inner entry) fs t ≡ Some W.Delimiter
unsplit_answer inner entry s some more none fs t is = ap (struct_why (S.StringPairs inner entry) fs) is ∙ split_not inner entry s some more (λ ps are. let e : false ≡ true = none ps are in cc) fs

-- a text of parts
pub join_answer : (delim s : List ℕ) → 0 < length delim → (ps : List (List ℕ)) → IsJoin delim ps s → (fs : List Field) → length ps ≡ length fs → (t : Data) → t ≡ T.text s
    → (struct_why (S.StringJoin delim) fs t ≡ None) × ((u : List ℕ) × (t ≡ T.text u) × (parted delim u ≡ ps))
join_answer delim s some ps is fs n t text =
    let x = join_there delim s some ps is in
    (ap (struct_why (S.StringJoin delim) fs) text ∙ x.why fs n, (s, text, x.cuts))

pub unjoined_answer : (delim s : List ℕ) → 0 < length delim → (fs : List Field) → ((ps : List (List ℕ)) → IsJoin delim ps s → length ps ≡ length fs → false ≡ true) → (t : Data) → t ≡ T.text s
    → struct_why (S.StringJoin delim) fs t ≡ Some W.Delimiter
unjoined_answer delim s some fs none t text = ap (struct_why (S.StringJoin delim) fs) text ∙ join_not delim s some fs (λ ps is n. let e : false ≡ true = none ps is n in cc)
