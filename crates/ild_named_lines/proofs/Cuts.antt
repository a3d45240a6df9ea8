-- A list of bytes, cut at its first byte that passes.
use Rattle.std.proofs.Common.{◌≡◌, ℕ, suc, ◌+◌, ◌<◌, List, [], ◌∷◌, ◌++◌, length, take, drop, Bool, true, false, cond, not, eqb, ltb, refl, sym, ap, ◌∙◌, arith}
use Rattle.std.specs.List.{AllByRecursion, after_first, before_first, position_or_len, slice_split, onto_first}
use Rattle.std.proofs.lemmas.Bool.Decides.{nat_tests}
use Rattle.std.proofs.lemmas.List.{drop_all, drop_at, take_all, take_at}
use Rattle.std.proofs.lemmas.List.Splits.{slice_split-cons_no, slice_split-cons_yes}

pub ltb_yes : (a b : ℕ) → a < b → ltb a b ≡ true
ltb_yes a b lt = grind (arith, nat_tests)

pub ltb_not : (a : ℕ) → ltb a a ≡ false
ltb_not a = grind (arith, nat_tests)

pub same_number : (a b : ℕ) → true ≡ eqb a b → a ≡ b
same_number a b e = grind (arith, nat_tests)

module _ (p : ℕ → Bool) where
  -- none of these bytes passes
  abbrev pub Lacks : List ℕ → Type 0
  Lacks bs = AllByRecursion (λ b. p b ≡ false) bs

  pub lacks_append : (xs ys : List ℕ) → Lacks xs → Lacks ys → Lacks (xs ++ ys)
  lacks_append [] ys l m = m
  lacks_append (x ∷ xs) ys l m = (l.0, lacks_append xs ys l.1 m)

  pub lacks_front : (xs ys : List ℕ) → Lacks (xs ++ ys) → Lacks xs
  lacks_front [] ys l = tt
  lacks_front (x ∷ xs) ys l = (l.0, lacks_front xs ys l.1)

  pub lacks_back : (xs ys : List ℕ) → Lacks (xs ++ ys) → Lacks ys
  lacks_back [] ys l = l
  lacks_back (x ∷ xs) ys l = lacks_back xs ys l.1

  -- ---- a list that lacks such a byte, or that begins with one that does, and goes on with the byte

  pub record Cut (bs : List ℕ) : Type 0 where
    pub front : List ℕ
    pub byte : ℕ
    pub back : List ℕ
    pub is : bs ≡ front ++ (byte ∷ back)
    pub lacks : Lacks front
    pub passes : p byte ≡ true

  pub data Parts (bs : List ℕ) : Type 0 where
    whole : Lacks bs → Parts bs
    cut : Cut bs → Parts bs

  onto : (b : ℕ) (bs : List ℕ) → p b ≡ false → Parts bs → Parts (b ∷ bs)
  onto b bs e (whole l) = whole (e, l)
  onto b bs e (cut c) = cut (record { front = b ∷ c.front; byte = c.byte; back = c.back; is = ap (λ xs. b ∷ xs) c.is; lacks = (e, c.lacks); passes = c.passes })

  parts_by : (b : ℕ) (bs : List ℕ) (t : Bool) → t ≡ p b → Parts bs → Parts (b ∷ bs)
  parts_by b bs true e parts = cut (record { front = []; byte = b; back = bs; is = refl; lacks = tt; passes = sym e })
  parts_by b bs false e parts = onto b bs (sym e) parts

  pub parts_of : (bs : List ℕ) → Parts bs
  parts_of [] = whole tt
  parts_of (b ∷ bs) = parts_by b bs (p b) refl (parts_of bs)

  -- ---- where the byte stands

  pub at_whole : (bs : List ℕ) → Lacks bs → position_or_len p bs ≡ length bs
  at_whole [] l = refl
  at_whole (b ∷ bs) l = ap (λ t. cond (not t) (1 + position_or_len p bs) 0) l.0 ∙ (let i = at_whole bs l.1 in omega (arith, i))

  module _ (c : ℕ) (passes : p c ≡ true) where
    pub at_cut : (f a : List ℕ) → Lacks f → position_or_len p (f ++ (c ∷ a)) ≡ length f
    at_cut [] a l = ap (λ t. cond (not t) (1 + position_or_len p a) 0) passes
    at_cut (b ∷ f) a l = ap (λ t. cond (not t) (1 + position_or_len p (f ++ (c ∷ a))) 0) l.0 ∙ (let i = at_cut f a l.1 in omega (arith, i))

    longer : (f a : List ℕ) → length f < length (f ++ (c ∷ a))
    longer [] a = omega arith
    longer (b ∷ f) a = let i = longer f a in omega (arith, i)

    past : (f a : List ℕ) → drop (length f + 1) (f ++ (c ∷ a)) ≡ a
    past [] a = refl
    past (b ∷ f) a = let one : suc (length f) + 1 ≡ suc (length f + 1) = omega arith in rw one (past f a)

    pub has_cut : (f a : List ℕ) → Lacks f → ltb (position_or_len p (f ++ (c ∷ a))) (length (f ++ (c ∷ a))) ≡ true
    has_cut f a l = ltb_yes _ _ (rw (at_cut f a l) (longer f a))

    pub before_cut : (f a : List ℕ) → Lacks f → before_first p (f ++ (c ∷ a)) ≡ f
    before_cut f a l = ap (λ n. take n (f ++ (c ∷ a))) (at_cut f a l) ∙ take_at f (c ∷ a) (length f) refl

    pub after_cut : (f a : List ℕ) → Lacks f → after_first p (f ++ (c ∷ a)) ≡ a
    after_cut f a l = ap (λ n. drop (n + 1) (f ++ (c ∷ a))) (at_cut f a l) ∙ past f a

    pub from_cut : (f a : List ℕ) → Lacks f → drop (position_or_len p (f ++ (c ∷ a))) (f ++ (c ∷ a)) ≡ c ∷ a
    from_cut f a l = ap (λ n. drop n (f ++ (c ∷ a))) (at_cut f a l) ∙ drop_at f (c ∷ a) (length f) refl

    -- the first part ends at the byte
    pub split_cut : (f a : List ℕ) → Lacks f → slice_split p (f ++ (c ∷ a)) ≡ f ∷ slice_split p a
    split_cut [] a l = slice_split-cons_yes p c a passes
    split_cut (b ∷ f) a l = slice_split-cons_no p b (f ++ (c ∷ a)) l.0 ∙ ap (onto_first b) (split_cut f a l.1)

  pub has_whole : (bs : List ℕ) → Lacks bs → ltb (position_or_len p bs) (length bs) ≡ false
  has_whole bs l = rw (at_whole bs l) (ltb_not (length bs))

  pub before_whole : (bs : List ℕ) → Lacks bs → before_first p bs ≡ bs
  before_whole bs l = ap (λ n. take n bs) (at_whole bs l) ∙ take_all (length bs) bs (omega arith)

  pub from_whole : (bs : List ℕ) → Lacks bs → drop (position_or_len p bs) bs ≡ []
  from_whole bs l = ap (λ n. drop n bs) (at_whole bs l) ∙ drop_all (length bs) bs (omega arith)

  -- a list that lacks such a byte is one part
  pub split_whole : (bs : List ℕ) → Lacks bs → slice_split p bs ≡ bs ∷ []
  split_whole [] l = refl
  split_whole (b ∷ bs) l = slice_split-cons_no p b bs l.0 ∙ ap (onto_first b) (split_whole bs l.1)

  -- no part has such a byte
  pub parts_lack : (bs : List ℕ) → AllByRecursion Lacks (slice_split p bs)
  parts_lack [] = (tt, tt)
  parts_lack (b ∷ bs) = by (p b) refl (slice_split p bs) (parts_lack bs)
    where
      by : (t : Bool) → t ≡ p b → (parts : List (List ℕ)) → AllByRecursion Lacks parts → AllByRecursion Lacks (cond t ([] ∷ parts) (onto_first b parts))
      by true e parts l = (tt, l)
      by false e [] l = ((sym e, tt), tt)
      by false e (part ∷ parts) l = ((sym e, l.0), l.1)
