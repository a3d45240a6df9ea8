-- Pairs of which one comes, goes or has another value, and their texts.
use Rattle.std.proofs.Common.{◌≡◌, ◌<◌, ◌≤◌, ◌-◌, ℕ, suc, List, [], ◌∷◌, ◌++◌, Bool, true, false, length, Option, Some, None, refl, sym, ◌∙◌, ap, subst, arith, get_or}
use Rattle.std.specs.Prelude.{insert, is_some, option_and_then, option_map, remove, slice_set}
use Rattle.std.proofs.Math.Seq.{set-append_seam}
use Rattle.std.proofs.lemmas.List.Edits.{insert-append_right, remove-append_right}
use Rattle.std.proofs.lemmas.Option.{same_Some}
use Rattle.ild_typed.proofs.Unions.{text_same_data}
use Rattle.ild_data.proofs.Options.{chain_some, map_some}
use Rattle.ild_data.specs.Data as T
use Rattle.ild_data.specs.Data.{Data}
use Rattle.ild_path_changes.proofs.Each.{joined}
use Rattle.ild_path_changes.specs.Pairs.{pair_if}
use Rattle.ild_path_pairs.specs.Pairs.{Tells, changed_by, text_pair_if}
use Rattle.ild_path_text.specs.Changed.{value_set}
use Rattle.ild_path_text.specs.declared.change.PairChange.{PairChange}
use Rattle.ild_schema.specs.Joins.{IsPairs, OnePairs}
use Rattle.ild_typed.specs.JoinLaws.{PairsArePairs}
use Rattle.ild_typed.specs.Strings.{cons_both, stringpairs, text_in, text_pairs}
use Rattle.ild_typed.specs.Texts.{join_pairs}
use Rattle.std.specs.Prelude.{Err, IfOk, Ok, Result}
use Rattle.std.specs.declared.alloc.AllocError.{AllocError}

-- ---- the change

get_seam : (front : List (List ℕ × List ℕ)) (p d : List ℕ × List ℕ) (behind : List (List ℕ × List ℕ)) → get_or (front ++ (p ∷ behind)) (length front) d ≡ p
get_seam [] p d behind = refl
get_seam (x ∷ front) p d behind = get_seam front p d behind

insert_seam : (front : List (List ℕ × List ℕ)) (p : List ℕ × List ℕ) (behind : List (List ℕ × List ℕ)) → insert (front ++ behind) (length front) p ≡ front ++ (p ∷ behind)
insert_seam front p behind =
    let none : length front - length front ≡ 0 = omega arith in
    let least : length front ≤ length front = omega arith in
    insert-append_right front behind (length front) (length front) p refl least ∙ ap (λ n. front ++ insert behind n p) none

remove_seam : (front : List (List ℕ × List ℕ)) (p : List ℕ × List ℕ) (behind : List (List ℕ × List ℕ)) → remove (front ++ (p ∷ behind)) (length front) ≡ front ++ behind
remove_seam front p behind =
    let none : length front - length front ≡ 0 = omega arith in
    let least : length front ≤ length front = omega arith in
    remove-append_right front (p ∷ behind) (length front) (length front) refl least ∙ ap (λ n. front ++ remove (p ∷ behind) n) none

module _ (place : ℕ) (key : List ℕ) (front behind : List (List ℕ × List ℕ)) (placed : place ≡ length front) where
  pub comes : (new : List ℕ) (old : Option (List ℕ)) → false ≡ is_some old → insert (front ++ (text_pair_if key old ++ behind)) place (key, new) ≡ front ++ (text_pair_if key (Some new) ++ behind)
  comes new None e = ap (λ n. insert (front ++ behind) n (key, new)) placed ∙ insert_seam front (key, new) behind
  comes new (Some s) e = absurd cc

  pub goes : (old : Option (List ℕ)) → true ≡ is_some old → remove (front ++ (text_pair_if key old ++ behind)) place ≡ front ++ (text_pair_if key None ++ behind)
  goes None e = absurd cc
  goes (Some s) e = ap (remove (front ++ ((key, s) ∷ behind))) placed ∙ remove_seam front (key, s) behind

  pub stays : (old : Option (List ℕ)) → false ≡ is_some old → front ++ (text_pair_if key old ++ behind) ≡ front ++ (text_pair_if key None ++ behind)
  stays None e = refl
  stays (Some s) e = absurd cc

  pub becomes : (new : List ℕ) (old : Option (List ℕ)) → true ≡ is_some old → value_set place new (front ++ (text_pair_if key old ++ behind)) ≡ front ++ (text_pair_if key (Some new) ++ behind)
  becomes new None e = absurd cc
  becomes new (Some s) e =
      ap (λ n. value_set n new (front ++ ((key, s) ∷ behind))) placed
      ∙ ap (λ (p : List ℕ × List ℕ). slice_set (front ++ ((key, s) ∷ behind)) (length front) (p.0, new)) (get_seam front (key, s) ([], []) behind)
      ∙ set-append_seam front (key, s) behind (key, new)

-- ---- pairs with texts as values

-- the texts of pairs in two halves
pub record Halves (front behind : List (List ℕ × Data)) (ps : List (List ℕ × List ℕ)) : Type 0 where
  pub first : List (List ℕ × List ℕ)
  pub last : List (List ℕ × List ℕ)
  pub first_is : text_pairs front ≡ Some first
  pub last_is : text_pairs behind ≡ Some last
  pub whole : first ++ last ≡ ps
  pub long : length front ≡ length first

pub halves : (front behind : List (List ℕ × Data)) (ps : List (List ℕ × List ℕ)) → text_pairs (front ++ behind) ≡ Some ps → Halves front behind ps
halves [] behind ps h = record { first = []; last = ps; first_is = refl; last_is = h; whole = refl; long = refl }
halves (p ∷ front) behind ps h =
    let j = joined (option_map (λ s. (p.0, s)) (text_in p.1)) (text_pairs (front ++ behind)) ps h in
    let r = halves front behind j.rest j.is_rest in
    record {
      first = j.first ∷ r.first;
      last = r.last;
      first_is = λ i. cons_both (j.is_first i) (r.first_is i);
      last_is = r.last_is;
      whole = ap (λ xs. j.first ∷ xs) r.whole ∙ j.whole;
      long = ap suc r.long;
    }

joined_map : (x : List ℕ × List ℕ) (xs : List (List ℕ × List ℕ)) (o : Option (List (List ℕ × List ℕ))) → cons_both (Some x) (option_map (λ ys. xs ++ ys) o) ≡ option_map (λ ys. (x ∷ xs) ++ ys) o
joined_map x xs None = refl
joined_map x xs (Some ys) = refl

none_joined : (o : Option (List ℕ × List ℕ)) → cons_both o None ≡ None
none_joined None = refl
none_joined (Some x) = refl

map_same : (o : Option (List (List ℕ × List ℕ))) → o ≡ option_map (λ ys. [] ++ ys) o
map_same None = refl
map_same (Some ys) = refl

pub whole_of : (front behind : List (List ℕ × Data)) (first : List (List ℕ × List ℕ)) → text_pairs front ≡ Some first → text_pairs (front ++ behind) ≡ option_map (λ ys. first ++ ys) (text_pairs behind)
whole_of [] behind first h = map_same (text_pairs behind) ∙ ap (λ xs. option_map (λ ys. xs ++ ys) (text_pairs behind)) (same_Some [] first h)
whole_of (p ∷ front) behind first h =
    let j = joined (option_map (λ s. (p.0, s)) (text_in p.1)) (text_pairs front) first h in
    (λ i. cons_both (j.is_first i) (whole_of front behind j.rest j.is_rest i)) ∙ joined_map j.first j.rest (text_pairs behind) ∙ ap (λ xs. option_map (λ ys. xs ++ ys) (text_pairs behind)) j.whole

-- with a pair between them
pub record Split (key : List ℕ) (front behind : List (List ℕ × Data)) (old : Option Data) (ps : List (List ℕ × List ℕ)) : Type 0 where
  pub first : List (List ℕ × List ℕ)
  pub last : List (List ℕ × List ℕ)
  pub held : Option (List ℕ)
  pub first_is : text_pairs front ≡ Some first
  pub last_is : text_pairs behind ≡ Some last
  pub whole : first ++ (text_pair_if key held ++ last) ≡ ps
  pub long : length front ≡ length first
  pub there : is_some old ≡ is_some held

pub split : (key : List ℕ) (front behind : List (List ℕ × Data)) (old : Option Data) (ps : List (List ℕ × List ℕ)) → text_pairs (front ++ (pair_if key old ++ behind)) ≡ Some ps → Split key front behind old ps
split key front behind None ps h =
    let r = halves front behind ps h in
    record { first = r.first; last = r.last; held = None; first_is = r.first_is; last_is = r.last_is; whole = r.whole; long = r.long; there = refl }
split key front behind (Some d) ps h =
    let r = halves front ((key, d) ∷ behind) ps h in
    let j = joined (option_map (λ s. (key, s)) (text_in d)) (text_pairs behind) r.last r.last_is in
    let y = map_some (λ s. (key, s)) (text_in d) j.first j.is_first in
    record {
      first = r.first;
      last = j.rest;
      held = Some y.0;
      first_is = r.first_is;
      last_is = j.is_rest;
      whole = ap (λ p. r.first ++ (p ∷ j.rest)) y.2 ∙ ap (λ xs. r.first ++ xs) j.whole ∙ r.whole;
      long = r.long;
      there = refl;
    }

module _ (inner entry key : List ℕ) (front behind : List (List ℕ × Data)) (old : Option Data) (ps : List (List ℕ × List ℕ)) (s : Split key front behind old ps) where
  between : (new : Option (List ℕ)) → text_pairs (pair_if key (option_map T.text new) ++ behind) ≡ Some (text_pair_if key new ++ s.last)
  between None = s.last_is
  between (Some x) = ap (cons_both (Some (key, x))) s.last_is

  -- the text of the pairs with a new value
  pub text_with : (new : Option (List ℕ)) → stringpairs inner entry (front ++ (pair_if key (option_map T.text new) ++ behind)) ≡ option_map T.text (join_pairs inner entry (s.first ++ (text_pair_if key new ++ s.last)))
  text_with new =
      ap (λ o. option_map T.text (option_and_then (join_pairs inner entry) o))
      (whole_of front (pair_if key (option_map T.text new) ++ behind) s.first s.first_is ∙ ap (option_map (λ ys. s.first ++ ys)) (between new))

-- the pairs of a text
pub record Paired (inner entry : List ℕ) (es : List (List ℕ × Data)) (text : List ℕ) : Type 0 where
  pub pairs : List (List ℕ × List ℕ)
  pub pairs_are : text_pairs es ≡ Some pairs
  pub text_is : join_pairs inner entry pairs ≡ Some text

pub paired : (inner entry : List ℕ) (es : List (List ℕ × Data)) (text : List ℕ) → stringpairs inner entry es ≡ Some (T.text text) → Paired inner entry es text
paired inner entry es text h =
    let y = map_some T.text (option_and_then (join_pairs inner entry) (text_pairs es)) (T.text text) h in
    let z = chain_some (join_pairs inner entry) (text_pairs es) y.0 y.1 in
    record { pairs = z.0; pairs_are = z.1; text_is = z.2 ∙ ap Some (text_same_data y.0 text y.2) }

-- which are the only ones of that text
pub one_text : OnePairs → PairsArePairs → (inner entry text : List ℕ) → 0 < length inner → 0 < length entry → (es : List (List ℕ × Data)) → stringpairs inner entry es ≡ Some (T.text text) → (ps : List (List ℕ × List ℕ)) → IsPairs inner entry ps text → text_pairs es ≡ Some ps
one_text one law inner entry text some parting es h ps is =
    let p = paired inner entry es text h in
    p.pairs_are ∙ ap Some (one inner entry text p.pairs ps some parting ((law inner entry p.pairs text some parting).0 p.text_is) is)

pub some_pairs : PairsArePairs → (inner entry text : List ℕ) → 0 < length inner → 0 < length entry → (es : List (List ℕ × Data)) → stringpairs inner entry es ≡ Some (T.text text) → (ps : List (List ℕ × List ℕ)) × IsPairs inner entry ps text
some_pairs law inner entry text some parting es h =
    let p = paired inner entry es text h in
    (p.pairs, (law inner entry p.pairs text some parting).0 p.text_is)

module _ (inner entry text key : List ℕ) (front behind : List (List ℕ × Data)) (old : Option Data) (was : stringpairs inner entry (front ++ (pair_if key old ++ behind)) ≡ Some (T.text text)) where
  at : Paired inner entry (front ++ (pair_if key old ++ behind)) text
  at = paired inner entry (front ++ (pair_if key old ++ behind)) text was

  parts : Split key front behind old at.pairs
  parts = split key front behind old at.pairs at.pairs_are

  -- of the pairs that a change makes
  pub told : (place : ℕ) (there : Bool) (new : Option (List ℕ)) (change : Option PairChange) (r : Result (Option (List ℕ)) AllocError) → place ≡ length front → there ≡ is_some old
      → ((front behind : List (List ℕ × List ℕ)) (old : Option (List ℕ)) → place ≡ length front → there ≡ is_some old → changed_by change (front ++ (text_pair_if key old ++ behind)) ≡ front ++ (text_pair_if key new ++ behind))
      → ((ps : List (List ℕ × List ℕ)) → join_pairs inner entry ps ≡ Some text → Tells (option_map T.text (join_pairs inner entry (changed_by change ps))) r)
      → Tells (stringpairs inner entry (front ++ (pair_if key (option_map T.text new) ++ behind))) r
  told place there new change r placed is_there law all =
      let same = ap (changed_by change) (sym parts.whole) ∙ law parts.first parts.last parts.held (placed ∙ parts.long) (is_there ∙ parts.there) in
      subst (λ o. Tells o r) (ap (λ xs. option_map T.text (join_pairs inner entry xs)) same ∙ sym (text_with inner entry key front behind old at.pairs parts new)) (all at.pairs at.text_is)

-- a text that is told, as data
pub as_data : (o : Option (List ℕ)) (r : Result (Option (List ℕ)) AllocError) → IfOk r (λ t. t ≡ o) → Tells (option_map T.text o) r
as_data o (Ok t) h = ap (option_map T.text) h
as_data o (Err e) h = h
