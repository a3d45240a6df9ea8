-- An order of blocks in which children stand first.
use Rattle.std.proofs.Common.{◌≡◌, ◌⊎◌, ⊎_elim, ℕ, zero, suc, ◌+◌, ◌-◌, ◌≤◌, ◌<◌, List, [], ◌∷◌, ◌++◌, length, take, drop, get_or, Bool, true, false, cond, ◌&&◌, ◌||◌, nat_eq, Option, Some, None, refl, sym, ap, subst, ◌∙◌, arith}
use Rattle.std.proofs.lemmas.List.{get_or-map, get_or-set_same, get_or-set_other, length-append, length-set, append-nil, append_assoc, length-replicate}
use Rattle.std.proofs.lemmas.Bool.{eq-eqb, eqb-true}
use Rattle.std.proofs.Math.ListN.{set}
use Rattle.std.specs.Prelude.{replicate}
use Rattle.std.specs.List.{cons_option}
use Rattle.std.specs.Option.{option_map_or}
use Rattle.ild_edges.specs.Among.{IsIn}
use Rattle.ild_edges.proofs.Among.{IsIn-at}
use Rattle.ild_dirty.specs.Own.{index_at}
use Rattle.ild_dirty.specs.inside.Walk.{AreBelow, AreInside, own_block, own_numbers, numbers_of, is_in, are_done, are_marked, is_ready, HasReady, Follows, AreStuck, unmarked, AreMarks, IsSoFar, PassesSpots}

-- ---- children that are done

done_more : (marks : List Bool) (order ns : List ℕ) (o : Option ℕ) (done : Bool) → ((j : ℕ) → get_or marks j false ≡ is_in j order) → are_marked marks ns ≡ done → are_marked marks (cons_option o ns) ≡ (option_map_or (λ j. is_in j order) o true && done)
done_more marks order ns None done are rest = rest
done_more marks order ns (Some j) done are rest = ap (λ b. b && are_marked marks ns) (are j) ∙ ap (λ b. is_in j order && b) rest

-- children are done where the numbers of those that are the batch's own are marked
done_marked : (own : List (List ℕ)) (order : List ℕ) (marks : List Bool) (cs : List (List ℕ × ℕ)) → ((j : ℕ) → get_or marks j false ≡ is_in j order) → are_marked marks (own_numbers own cs) ≡ are_done own order cs
done_marked own order marks [] are = refl
done_marked own order marks (c ∷ cs) are = done_more marks order (own_numbers own cs) (index_at own c.0) (are_done own order cs) are (done_marked own order marks cs are)

-- a place is ready where the numbers that are noted of it are marked
pub ready_marked : (own : List (List ℕ)) (children : ℕ → List ℕ → List (List ℕ × ℕ)) (spots : List (ℕ × ℕ)) (below : List (List ℕ)) (order : List ℕ) (marks : List Bool) (left : ℕ) (s d : ℕ × ℕ) → AreBelow own children spots below → left < length spots → s ≡ get_or spots left d → AreMarks own order marks
    → is_ready own children order s ≡ are_marked marks (get_or below left [])
ready_marked own children spots below order marks left s d noted lt at marked =
    sym (done_marked own order marks (children s.1 (own_block own s.0)) marked.are)
    ∙ ap (are_marked marks) (ap (numbers_of own children) at ∙ sym (get_or-map (numbers_of own children) spots left d [] lt) ∙ ap (λ bs. get_or bs left []) (sym noted))

-- ---- marks

or_assoc : (a b c : Bool) → (a || (b || c)) ≡ (a || b || c)
or_assoc true b c = refl
or_assoc false b c = refl

or_end : (b : Bool) → (b || false) ≡ b
or_end true = refl
or_end false = refl

pub is_in-more : (j : ℕ) (order : List ℕ) (i : ℕ) → is_in j (order ++ i ∷ []) ≡ (is_in j order || nat_eq i j)
is_in-more j [] i = or_end (nat_eq i j)
is_in-more j (k ∷ order) i = ap (λ b. nat_eq k j || b) (is_in-more j order i) ∙ or_assoc (nat_eq k j) (is_in j order) (nat_eq i j)

or_true : (a : Bool) → (a || true) ≡ true
or_true true = refl
or_true false = refl

marks_by : (marks : List Bool) (order : List ℕ) (i : ℕ) → i < length marks → ((j : ℕ) → get_or marks j false ≡ is_in j order) → (j : ℕ) (t : Bool) → nat_eq i j ≡ t → get_or (set marks i true) j false ≡ (is_in j order || t)
marks_by marks order i lt are j true is = ap (λ n. get_or (set marks i true) n false) (sym (eqb-true i j is)) ∙ get_or-set_same marks i true false lt ∙ sym (or_true (is_in j order))
marks_by marks order i lt are j false is = get_or-set_other marks i j true false (λ same. absurd (let bad : true ≡ false = sym (eq-eqb i j (sym same)) ∙ is in cc)) ∙ are j ∙ sym (or_end (is_in j order))

unmarked_by : (a : Bool) (n : ℕ) → a ≡ false → cond true 0 1 + n + 1 ≡ cond a 0 1 + n
unmarked_by true n e = absurd cc
unmarked_by false n e = omega arith

pub unmarked_set : (marks : List Bool) (i : ℕ) → i < length marks → get_or marks i false ≡ false → unmarked (set marks i true) + 1 ≡ unmarked marks
unmarked_set [] i lt e = absurd (omega (arith, lt))
unmarked_set (b ∷ marks) zero lt e = unmarked_by b (unmarked marks) e
unmarked_set (b ∷ marks) (suc i) lt e = let more : unmarked (set marks i true) + 1 ≡ unmarked marks = unmarked_set marks i (omega (arith, lt)) e in omega (arith, more)

pub marks_more : (own : List (List ℕ)) (order now : List ℕ) (marks after : List Bool) (i : ℕ) → i < length own → get_or marks i false ≡ false → now ≡ order ++ i ∷ [] → after ≡ set marks i true → AreMarks own order marks → AreMarks own now after
marks_more own order now marks after i lt free is set_is old =
    let within : i < length marks = omega (arith, lt, old.len) in
    let count : unmarked (set marks i true) + 1 ≡ unmarked marks = unmarked_set marks i within free in
    let before : unmarked marks + length order ≡ length own = old.count in
    rw (is, set_is) (record {
      are = λ j. marks_by marks order i within old.are j (nat_eq i j) refl ∙ sym (is_in-more j order i);
      len = length-set marks i true ∙ old.len;
      count = omega (arith, count, before, length-append order (i ∷ []));
    })

replicate_unmarked : (n : ℕ) → unmarked (replicate n false) ≡ n
replicate_unmarked zero = refl
replicate_unmarked (suc n) = let more : unmarked (replicate n false) ≡ n = replicate_unmarked n in omega (arith, more)

-- ---- children first

pub follows_more : (own : List (List ℕ)) (children : ℕ → List ℕ → List (List ℕ × ℕ)) (spots : List (ℕ × ℕ)) (before order : List ℕ) (i : ℕ) → Follows own children spots before order → is_in i (before ++ order) ≡ false → HasReady own children spots (before ++ order) i
    → Follows own children spots before (order ++ i ∷ [])
follows_more own children spots before [] i follows once ready =
    let all : before ++ [] ≡ before = append-nil before in
    (subst (λ (xs : List ℕ). is_in i xs ≡ false) all once, subst (λ (xs : List ℕ). HasReady own children spots xs i) all ready, tt)
follows_more own children spots before (j ∷ order) i follows once ready =
    let all : before ++ (j ∷ order) ≡ (before ++ j ∷ []) ++ order = sym (append_assoc before (j ∷ []) order) in
    (follows.0, follows.1, follows_more own children spots (before ++ j ∷ []) order i follows.2 (subst (λ (xs : List ℕ). is_in i xs ≡ false) all once) (subst (λ (xs : List ℕ). HasReady own children spots xs i) all ready))

-- ---- one pass

-- a pass has looked at all but so many places
pub record Passing (own : List (List ℕ)) (children : ℕ → List ℕ → List (List ℕ × ℕ)) (spots : List (ℕ × ℕ)) (old : List ℕ) (left : ℕ) (more : Bool) (new : List ℕ) (marks : List Bool) : Type 0 where
  pub so_far : IsSoFar own children spots new marks
  pub grown : length old ≤ length new
  pub longer : more ≡ true → length old < length new
  pub stuck : more ≡ false → AreStuck own children new (drop left spots)

drop_item : {A : Type 0} (xs : List A) (i : ℕ) (x d : A) → i < length xs → x ≡ get_or xs i d → drop i xs ≡ x ∷ drop (suc i) xs
drop_item [] i x d lt is = absurd (omega (arith, lt))
drop_item (y ∷ ys) zero x d lt is = ap (λ z. z ∷ ys) (sym is)
drop_item (y ∷ ys) (suc i) x d lt is = drop_item ys i x d (omega (arith, lt)) is

drop_all : {A : Type 0} (xs : List A) → drop (length xs) xs ≡ []
drop_all [] = refl
drop_all (x ∷ xs) = drop_all xs

pub passing_none : (own : List (List ℕ)) (children : ℕ → List ℕ → List (List ℕ × ℕ)) (spots : List (ℕ × ℕ)) (left : ℕ) (old : List ℕ) (marks : List Bool) → left ≡ length spots → IsSoFar own children spots old marks → Passing own children spots old left false old marks
passing_none own children spots left old marks is so_far = record {
  so_far = so_far;
  grown = omega arith;
  longer = λ e. absurd cc;
  stuck = λ e s among. absurd (subst (λ (xs : List (ℕ × ℕ)). IsIn s xs) (ap (λ n. drop n spots) is ∙ drop_all spots) among);
}

-- a place whose block can't be next
pub passing_over : (own : List (List ℕ)) (children : ℕ → List ℕ → List (List ℕ × ℕ)) (spots : List (ℕ × ℕ)) (old : List ℕ) (left next : ℕ) (more : Bool) (new : List ℕ) (marks : List Bool) (s d : ℕ × ℕ) → next + 1 ≡ left → next < length spots → s ≡ get_or spots next d
    → (is_in s.0 new ≡ true) ⊎ (is_ready own children new s ≡ false) → Passing own children spots old left more new marks → Passing own children spots old next more new marks
passing_over own children spots old left next more new marks s d step lt at over p =
    let up : suc next ≡ left = omega (arith, step) in
    let front : drop next spots ≡ s ∷ drop left spots = drop_item spots next s d lt at ∙ ap (λ n. s ∷ drop n spots) up in
    record {
      so_far = p.so_far;
      grown = p.grown;
      longer = p.longer;
      stuck = λ e r among. ⊎_elim (λ same. subst (λ (x : ℕ × ℕ). (is_in x.0 new ≡ true) ⊎ (is_ready own children new x ≡ false)) (sym same) over) (λ behind. p.stuck e r behind) (subst (λ (xs : List (ℕ × ℕ)). IsIn r xs) front among);
    }

-- a place whose block is next
pub passing_next : (own : List (List ℕ)) (children : ℕ → List ℕ → List (List ℕ × ℕ)) (spots : List (ℕ × ℕ)) (old : List ℕ) (left next : ℕ) (more : Bool) (new now : List ℕ) (marks after : List Bool) (s d : ℕ × ℕ) → next < length spots → s ≡ get_or spots next d
    → get_or marks s.0 false ≡ false → is_ready own children new s ≡ true → now ≡ new ++ s.0 ∷ [] → (s.0 < length marks → after ≡ set marks s.0 true) → Passing own children spots old left more new marks → Passing own children spots old next true now after
passing_next own children spots old left next more new now marks after s d lt at free ready is set_is p =
    let among : IsIn s spots = IsIn-at spots next s d lt at in
    let within : s.0 < length own = (p.so_far.inside s among).within in
    let here : s.0 < length marks = omega (arith, within, p.so_far.marked.len) in
    let once : is_in s.0 new ≡ false = sym (p.so_far.marked.are s.0) ∙ free in
    let longer : length now ≡ length new + 1 = ap length is ∙ length-append new (s.0 ∷ []) in
    let most : length old ≤ length new = p.grown in
    record {
      so_far = record {
        inside = p.so_far.inside;
        marked = marks_more own new now marks after s.0 within free is (set_is here) p.so_far.marked;
        follows = subst (λ (xs : List ℕ). Follows own children spots [] xs) (sym is) (follows_more own children spots [] new s.0 p.so_far.follows once (record { kind = s.1; reached = among; ready = ready }));
      };
      grown = omega (arith, longer, most);
      longer = λ e. omega (arith, longer, most);
      stuck = λ e. absurd cc;
    }

pub passed : (own : List (List ℕ)) (children : ℕ → List ℕ → List (List ℕ × ℕ)) (spots : List (ℕ × ℕ)) (old : List ℕ) (left : ℕ) (more : Bool) (new : List ℕ) (marks : List Bool) → left ≡ 0 → Passing own children spots old left more new marks → PassesSpots own children spots old more new marks
passed own children spots old left more new marks is p = record {
  so_far = p.so_far;
  grown = p.grown;
  longer = p.longer;
  stuck = λ e. subst (λ (n : ℕ). AreStuck own children new (drop n spots)) is (p.stuck e);
}

-- ---- the end

pub none_so_far : (own : List (List ℕ)) (children : ℕ → List ℕ → List (List ℕ × ℕ)) (spots : List (ℕ × ℕ)) (order : List ℕ) (marks : List Bool) → order ≡ [] → AreInside own spots → AreMarks own [] marks → IsSoFar own children spots order marks
none_so_far own children spots order marks is inside marked = rw is (record { inside = inside; marked = marked; follows = tt })

pub none_marked : (own : List (List ℕ)) (marks : List Bool) → marks ≡ replicate (length own) false → AreMarks own [] marks
none_marked own marks is = rw is (record {
  are = λ j. none_at (length own) j;
  len = length-replicate (length own) false;
  count = let all : unmarked (replicate (length own) false) ≡ length own = replicate_unmarked (length own) in omega (arith, all);
}) where
  none_at : (n j : ℕ) → get_or (replicate n false) j false ≡ false
  none_at zero j = refl
  none_at (suc n) zero = refl
  none_at (suc n) (suc j) = none_at n j

take_none : {A : Type 0} (n : ℕ) → take {A = A} n [] ≡ []
take_none zero = refl
take_none (suc n) = refl

pub resized : (own : List (List ℕ)) (n v : ℕ) (first now : List Bool) → n ≡ length own → first ≡ [] → v ≡ 0 → now ≡ take n first ++ replicate (n - v) false → now ≡ replicate (length own) false
resized own n v first now len none zero_len is =
    let off : n - v ≡ length own = omega (arith, len, zero_len) in
    is ∙ ap (λ xs. take n xs ++ replicate (n - v) false) none ∙ ap (λ xs. xs ++ replicate (n - v) false) (take_none n) ∙ ap (λ k. replicate k false) off
