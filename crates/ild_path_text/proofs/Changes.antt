-- Texts of pairs of which one is changed.
use Rattle.std.proofs.Common.{◌≡◌, ℕ, zero, suc, ◌+◌, ◌-◌, ◌<◌, ◌≤◌, Bool, true, false, cond, ◌&&◌, List, [], ◌∷◌, ◌++◌, Option, Some, None, length, take, drop, map, get_or, refl, ap, sym, ◌∙◌, arith, length-append, length-set, take_all}
use Rattle.std.specs.List.{AllByRecursion, list_all}
use Rattle.std.specs.Prelude.{slice_set, insert, remove}
use Rattle.std.proofs.lemmas.List.{map-append, map-set, take-map, drop-map, drop_all, length-map}
use Rattle.std.proofs.lemmas.Option.{same_Some, none-some}
use Rattle.std.proofs.lemmas.Bool.{and_parts}
use Rattle.ild_schema.specs.Joins.{joined, IsJoin, IsPair, IsPairs, pair_text}
use Rattle.ild_text.specs.Cut.{cut, halves}
use Rattle.ild_text.specs.Pairs.{entries}
use Rattle.ild_typed.specs.JoinLaws.{JoinsAreJoins, PairsArePairs}
use Rattle.ild_typed.specs.Texts.{is_parted, join, join_pairs}
use Rattle.ild_typed.proofs.Basics.{if_from}
use Rattle.ild_path_text.specs.Changed.{value_set}
use Rattle.ild_path_text.specs.Left.{parts_left, between, tail}
use Rattle.ild_path_text.proofs.Cutting.{cut_is, halves_pair}
use Rattle.ild_path_text.proofs.Drafts.{part_set, part_stays, part_comes}
use Rattle.ild_path_text.proofs.Keys.{parted_alike}

-- ---- the entries of a text of pairs

-- pairs that a text is, as its entries
pub record Given (inner entry : List ℕ) (ps : List (List ℕ × List ℕ)) (left : Option (List ℕ)) : Type 0 where
  pub entries : map (pair_text inner) ps ≡ parts_left entry left
  pub pairs : AllByRecursion (IsPair inner) ps
  pub parted : list_all (is_parted inner) ps ≡ true

abbrev head_of : List (List ℕ) → List ℕ
head_of [] = []
head_of (p ∷ ps) = p

entries_are : (inner entry t : List ℕ) (p : List ℕ × List ℕ) (ps : List (List ℕ × List ℕ)) → 0 < length inner → 0 < length entry → IsJoin entry (pair_text inner p ∷ map (pair_text inner) ps) t → entries entry t ≡ pair_text inner p ∷ map (pair_text inner) ps
entries_are inner entry [] p ps some parting j =
    let none : [] ≡ pair_text inner p = ap head_of (cut_is entry (pair_text inner p ∷ map (pair_text inner) ps) [] parting j) in
    absurd (omega (arith, some, ap length none, length-append p.0 (inner ++ p.1), length-append inner p.1))
entries_are inner entry (b ∷ bs) p ps some parting j = cut_is entry (pair_text inner p ∷ map (pair_text inner) ps) (b ∷ bs) parting j

of_pairs : (inner entry t : List ℕ) (ps : List (List ℕ × List ℕ)) → 0 < length inner → 0 < length entry → IsPairs inner entry ps t → (map (pair_text inner) ps ≡ entries entry t) × AllByRecursion (IsPair inner) ps
of_pairs inner entry t [] some parting none = (ap (entries entry) (sym none), tt)
of_pairs inner entry t (p ∷ ps) some parting is = (sym (entries_are inner entry t p ps some parting is.0), is.1)

pub given : PairsArePairs → (inner entry t : List ℕ) (ps : List (List ℕ × List ℕ)) (left : Option (List ℕ)) → 0 < length inner → 0 < length entry → parts_left entry left ≡ entries entry t → join_pairs inner entry ps ≡ Some t
    → Given inner entry ps left
given law inner entry t ps left some parting same made =
    let is = of_pairs inner entry t ps some parting ((law inner entry ps t some parting).0 made) in
    record {
      entries = is.0 ∙ sym same;
      pairs = is.1;
      parted = (if_from (list_all (is_parted inner) ps) (join entry (map (pair_text inner) ps)) t made).0;
    }

-- ---- a pair with a new value

there : (inner : List ℕ) (ps : List (List ℕ × List ℕ)) (place : ℕ) (old : List ℕ) (more : List (List ℕ)) (d : List ℕ × List ℕ) → AllByRecursion (IsPair inner) ps → drop place (map (pair_text inner) ps) ≡ old ∷ more
    → (old ≡ pair_text inner (get_or ps place d)) × IsPair inner (get_or ps place d)
there inner [] zero old more d all e = absurd cc
there inner [] (suc n) old more d all e = absurd cc
there inner (p ∷ ps) zero old more d all e = (sym (ap head_of e), all.0)
there inner (p ∷ ps) (suc n) old more d all e = there inner ps n old more d all.1 e

value_text : (inner new : List ℕ) (ps : List (List ℕ × List ℕ)) (place : ℕ) → map (pair_text inner) (value_set place new ps) ≡ slice_set (map (pair_text inner) ps) place (pair_text inner ((get_or ps place ([], [])).0, new))
value_text inner new ps place = map-set (pair_text inner) ps place ((get_or ps place ([], [])).0, new)

pub value_placed : (inner entry new key value : List ℕ) (ps : List (List ℕ × List ℕ)) (place : ℕ) (front old made out : List ℕ) (left : Option (List ℕ)) (rest : List (List ℕ)) (behind : Option (List ℕ)) → 0 < length inner → 0 < length entry
    → map (pair_text inner) ps ≡ parts_left entry left → AllByRecursion (IsPair inner) ps → front ≡ joined entry (take place (parts_left entry left)) → rest ≡ drop place (parts_left entry left)
    → rest ≡ old ∷ parts_left entry behind → Some (key, value) ≡ halves inner old → made ≡ front ++ (between entry place ++ pair_text inner (key, new)) → out ≡ made ++ tail entry 1 behind
    → out ≡ joined entry (map (pair_text inner) (value_set place new ps))
value_placed inner entry new key value ps place front old made out left rest behind some parting same all is here first cut more last =
    let at = there inner ps place old (parts_left entry behind) ([], []) all (ap (drop place) same ∙ sym here ∙ first) in
    let found : Some (key, value) ≡ Some ((get_or ps place ([], [])).0, (get_or ps place ([], [])).1) = cut ∙ ap (halves inner) at.0 ∙ halves_pair inner (get_or ps place ([], [])) some at.1 in
    let own : key ≡ (get_or ps place ([], [])).0 = ap (λ (p : List ℕ × List ℕ). p.0) (same_Some (key, value) ((get_or ps place ([], [])).0, (get_or ps place ([], [])).1) found) in
    part_set entry (parts_left entry left) place front old (pair_text inner (key, new)) made out rest behind parting is here first more last
    ∙ ap (λ es. joined entry (slice_set es place (pair_text inner (key, new)))) (sym same)
    ∙ ap (λ k. joined entry (slice_set (map (pair_text inner) ps) place (pair_text inner (k, new)))) own
    ∙ ap (joined entry) (sym (value_text inner new ps place))

-- an entry has a delimiter
pub value_there : (inner entry : List ℕ) (ps : List (List ℕ × List ℕ)) (place : ℕ) (old : List ℕ) (left : Option (List ℕ)) (rest : List (List ℕ)) (behind : Option (List ℕ)) → 0 < length inner
    → map (pair_text inner) ps ≡ parts_left entry left → AllByRecursion (IsPair inner) ps → rest ≡ drop place (parts_left entry left)
    → rest ≡ old ∷ parts_left entry behind → None ≡ halves inner old → ⊥
value_there inner entry ps place old left rest behind some same all here first cut =
    let at = there inner ps place old (parts_left entry behind) ([], []) all (ap (drop place) same ∙ sym here ∙ first) in
    none-some ((get_or ps place ([], [])).0, (get_or ps place ([], [])).1) (cut ∙ ap (halves inner) at.0 ∙ halves_pair inner (get_or ps place ([], [])) some at.1)

pub value_stays : (inner entry new : List ℕ) (ps : List (List ℕ × List ℕ)) (place : ℕ) (front : List ℕ) (left : Option (List ℕ)) → map (pair_text inner) ps ≡ parts_left entry left
    → front ≡ joined entry (take place (parts_left entry left)) → [] ≡ drop place (parts_left entry left) → front ≡ joined entry (map (pair_text inner) (value_set place new ps))
value_stays inner entry new ps place front left same is none =
    part_stays entry (parts_left entry left) place front (pair_text inner ((get_or ps place ([], [])).0, new)) is none
    ∙ ap (λ es. joined entry (slice_set es place (pair_text inner ((get_or ps place ([], [])).0, new)))) (sym same)
    ∙ ap (joined entry) (sym (value_text inner new ps place))

-- ---- a pair that comes or goes

insert_text : (inner : List ℕ) (ps : List (List ℕ × List ℕ)) (place : ℕ) (p : List ℕ × List ℕ) → map (pair_text inner) (insert ps place p) ≡ insert (map (pair_text inner) ps) place (pair_text inner p)
insert_text inner ps place p =
    map-append (pair_text inner) (take place ps) (p ∷ drop place ps) ∙ (λ k. sym (take-map (pair_text inner) place ps) k ++ pair_text inner p ∷ sym (drop-map (pair_text inner) place ps) k)

remove_text : (inner : List ℕ) (ps : List (List ℕ × List ℕ)) (place : ℕ) → map (pair_text inner) (remove ps place) ≡ remove (map (pair_text inner) ps) place
remove_text inner ps place =
    map-append (pair_text inner) (take place ps) (drop (suc place) ps) ∙ (λ k. sym (take-map (pair_text inner) place ps) k ++ sym (drop-map (pair_text inner) (suc place) ps) k)

pub pair_placed : (inner entry key new : List ℕ) (ps : List (List ℕ × List ℕ)) (place n : ℕ) (front made out : List ℕ) (left rest : Option (List ℕ)) → 0 < length entry → map (pair_text inner) ps ≡ parts_left entry left
    → front ≡ joined entry (take place (parts_left entry left)) → parts_left entry rest ≡ drop place (parts_left entry left) → between entry n ≡ between entry (length (take place (parts_left entry left)))
    → made ≡ front ++ (between entry n ++ pair_text inner (key, new)) → out ≡ made ++ tail entry 1 rest → out ≡ joined entry (map (pair_text inner) (insert ps place (key, new)))
pair_placed inner entry key new ps place n front made out left rest parting same is here gap more last =
    part_comes entry (parts_left entry left) place n front (pair_text inner (key, new)) made out rest parting is here gap more last
    ∙ ap (λ es. joined entry (insert es place (pair_text inner (key, new)))) (sym same)
    ∙ ap (joined entry) (sym (insert_text inner ps place (key, new)))

-- ---- whether each key ends at a delimiter

value_all : (inner new : List ℕ) (ps : List (List ℕ × List ℕ)) (place : ℕ) → 0 < length inner → list_all (is_parted inner) ps ≡ true → list_all (is_parted inner) (value_set place new ps) ≡ true
value_all inner new [] place some all = refl
value_all inner new (p ∷ ps) zero some all = ap (λ b. b && list_all (is_parted inner) ps) (parted_alike inner p.0 new p.1 some) ∙ all
value_all inner new (p ∷ ps) (suc n) some all =
    let both = and_parts (is_parted inner p) (list_all (is_parted inner) ps) all in
    ap (λ b. b && list_all (is_parted inner) (value_set n new ps)) both.0 ∙ value_all inner new ps n some both.1

and_true : (b : Bool) → (b && true) ≡ b
and_true true = refl
and_true false = refl

insert_all : {A : Type 0} (f : A → Bool) (xs : List A) (n : ℕ) (x : A) → list_all f xs ≡ true → list_all f (insert xs n x) ≡ f x
insert_all f [] zero x all = and_true (f x)
insert_all f [] (suc n) x all = and_true (f x)
insert_all f (y ∷ ys) zero x all = ap (λ b. f x && b) all ∙ and_true (f x)
insert_all f (y ∷ ys) (suc n) x all =
    let both = and_parts (f y) (list_all f ys) all in
    ap (λ b. b && list_all f (insert ys n x)) both.0 ∙ insert_all f ys n x both.1

remove_all : {A : Type 0} (f : A → Bool) (xs : List A) (n : ℕ) → list_all f xs ≡ true → list_all f (remove xs n) ≡ true
remove_all f [] zero all = refl
remove_all f [] (suc n) all = refl
remove_all f (y ∷ ys) zero all = (and_parts (f y) (list_all f ys) all).1
remove_all f (y ∷ ys) (suc n) all =
    let both = and_parts (f y) (list_all f ys) all in
    ap (λ b. b && list_all f (remove ys n)) both.0 ∙ remove_all f ys n both.1

-- ---- how many pairs there are then

insert_length : {A : Type 0} (xs : List A) (n : ℕ) (x : A) → length (insert xs n x) ≡ length xs + 1
insert_length [] zero x = refl
insert_length [] (suc n) x = refl
insert_length (y ∷ ys) zero x = omega arith
insert_length (y ∷ ys) (suc n) x = let h = insert_length ys n x in omega (arith, h)

pub remove_length : {A : Type 0} (xs : List A) (n : ℕ) → n < length xs → length (remove xs n) ≡ length xs - 1
remove_length [] n lt = absurd (omega (arith, lt))
remove_length (y ∷ ys) zero lt = omega arith
remove_length (y ∷ ys) (suc n) lt = let h = remove_length ys n (omega (arith, lt)) in omega (arith, h, lt)

pub remove_none : {A : Type 0} (xs : List A) (n : ℕ) → length xs ≤ n → length (remove xs n) ≡ length xs
remove_none xs n le = ap length (λ k. take_all n xs le k ++ drop_all (suc n) xs (omega (arith, le)) k) ∙ length-append xs [] ∙ zero_more (length xs)
  where
    zero_more : (m : ℕ) → m + 0 ≡ m
    zero_more m = omega arith

-- ---- the answers

-- what a test of the joints says
abbrev pub Tested : List ℕ → List ℕ → ℕ → Option (List ℕ) → Type 0
Tested entry out count o = (parts : List (List ℕ)) → joined entry parts ≡ out → length parts ≡ count → o ≡ join entry parts

counted : (inner entry : List ℕ) (ps : List (List ℕ × List ℕ)) (left : Option (List ℕ)) → Given inner entry ps left → length ps ≡ length (parts_left entry left)
counted inner entry ps left g = sym (length-map ps (pair_text inner)) ∙ ap length g.entries

tested : (inner entry out : List ℕ) (count : ℕ) (o : Option (List ℕ)) (qs : List (List ℕ × List ℕ)) → list_all (is_parted inner) qs ≡ true → out ≡ joined entry (map (pair_text inner) qs) → length qs ≡ count → Tested entry out count o
    → o ≡ join_pairs inner entry qs
tested inner entry out count o qs all is many test =
    test (map (pair_text inner) qs) (sym is) (length-map qs (pair_text inner) ∙ many) ∙ ap (λ b. cond b (join entry (map (pair_text inner) qs)) None) (sym all)

pub set_done : (inner entry out new : List ℕ) (count place : ℕ) (o : Option (List ℕ)) (ps : List (List ℕ × List ℕ)) (left : Option (List ℕ)) → 0 < length inner → Given inner entry ps left
    → ((qs : List (List ℕ × List ℕ)) → map (pair_text inner) qs ≡ parts_left entry left → AllByRecursion (IsPair inner) qs → out ≡ joined entry (map (pair_text inner) (value_set place new qs)))
    → count ≡ length (parts_left entry left) → Tested entry out count o → o ≡ join_pairs inner entry (value_set place new ps)
set_done inner entry out new count place o ps left some g made many test =
    tested inner entry out count o (value_set place new ps) (value_all inner new ps place some g.parted) (made ps g.entries g.pairs)
    (length-set ps place ((get_or ps place ([], [])).0, new) ∙ counted inner entry ps left g ∙ sym many) test

pub insert_done : (inner entry out key new : List ℕ) (count place : ℕ) (o : Option (List ℕ)) (ps : List (List ℕ × List ℕ)) (left : Option (List ℕ)) → Given inner entry ps left → ((v : List ℕ) → is_parted inner (key, v) ≡ true)
    → ((qs : List (List ℕ × List ℕ)) → map (pair_text inner) qs ≡ parts_left entry left → out ≡ joined entry (map (pair_text inner) (insert qs place (key, new))))
    → count ≡ length (parts_left entry left) → Tested entry out (count + 1) o → o ≡ join_pairs inner entry (insert ps place (key, new))
insert_done inner entry out key new count place o ps left g ends made many test =
    tested inner entry out (count + 1) o (insert ps place (key, new)) (insert_all (is_parted inner) ps place (key, new) g.parted ∙ ends new) (made ps g.entries)
    (insert_length ps place (key, new) ∙ ap (λ n. n + 1) (counted inner entry ps left g ∙ sym many)) test

pub insert_refused : (inner entry key new : List ℕ) (place : ℕ) (ps : List (List ℕ × List ℕ)) (left : Option (List ℕ)) → Given inner entry ps left → ((v : List ℕ) → is_parted inner (key, v) ≡ false)
    → None ≡ join_pairs inner entry (insert ps place (key, new))
insert_refused inner entry key new place ps left g never =
    ap (λ b. cond b (join entry (map (pair_text inner) (insert ps place (key, new)))) None) (sym (insert_all (is_parted inner) ps place (key, new) g.parted ∙ never new))

pub delete_done : (inner entry out : List ℕ) (count fewer place : ℕ) (o : Option (List ℕ)) (ps : List (List ℕ × List ℕ)) (left : Option (List ℕ)) → Given inner entry ps left → out ≡ joined entry (remove (parts_left entry left) place)
    → count ≡ length (parts_left entry left) → (length (remove (parts_left entry left) place) ≡ fewer) → Tested entry out fewer o → o ≡ join_pairs inner entry (remove ps place)
delete_done inner entry out count fewer place o ps left g made many less test =
    let text : map (pair_text inner) (remove ps place) ≡ remove (parts_left entry left) place = remove_text inner ps place ∙ ap (λ es. remove es place) g.entries in
    tested inner entry out fewer o (remove ps place) (remove_all (is_parted inner) ps place g.parted) (made ∙ ap (joined entry) (sym text))
    (sym (length-map (remove ps place) (pair_text inner)) ∙ ap length text ∙ less) test

-- ---- a part that is set

pub part_done : JoinsAreJoins → (d t new out : List ℕ) (ps : List (List ℕ)) (count place : ℕ) (o : Option (List ℕ)) → 0 < length d → join d ps ≡ Some t → length ps ≡ count → place < count → out ≡ joined d (slice_set (cut d t) place new)
    → Tested d out count o → o ≡ join d (slice_set ps place new)
part_done law d t new out ps count place o some is many lt made test =
    let same : cut d t ≡ ps = cut_is d ps t some ((law d ps t some (omega (arith, many, lt))).0 is) in
    test (slice_set ps place new) (sym (made ∙ ap (λ qs. joined d (slice_set qs place new)) same)) (length-set ps place new ∙ many)
