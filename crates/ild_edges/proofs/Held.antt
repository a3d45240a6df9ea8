-- Look-ups among blocks, and what a block that is added leaves of them.
use Rattle.std.proofs.Common.{◌≡◌, ◌≢◌, ◌⊎◌, ℕ, List, [], ◌∷◌, ◌++◌, Bool, true, false, cond, Option, Some, None, refl, sym, ap, ◌∙◌, inl, inr}
use Rattle.std.proofs.lemmas.Option.{same_Some, none-some}
use Rattle.std.specs.Cmp.Lexicographic.{same_text as texts_same, other_text, nat_list_eq_equiv}
use Rattle.ild_data.specs.Key.{same_text}
use Rattle.ild_data.specs.Spell.{id_of}
use Rattle.ild_edges.specs.Store.{block_at, Adds, IsFree, Keeps}

found_id : (t : Bool) (b c id : List ℕ) (rest : Option (List ℕ)) → t ≡ same_text (id_of b) id → cond t (Some b) rest ≡ Some c
    → (rest ≡ Some c → id_of c ≡ id) → id_of c ≡ id
found_id true b c id rest is e later = ap id_of (sym (same_Some b c e)) ∙ texts_same (id_of b) id is
found_id false b c id rest is e later = later e

-- what is found under an id has this id
pub block_at_id : (bs : List (List ℕ)) (id c : List ℕ) → block_at bs id ≡ Some c → id_of c ≡ id
block_at_id [] id c e = absurd (none-some c e)
block_at_id (b ∷ bs) id c e = found_id (same_text (id_of b) id) b c id (block_at bs id) refl e (block_at_id bs id c)

passed : (t : Bool) (c : List ℕ) (was now then : Option (List ℕ)) → cond t (Some c) was ≡ None → (was ≡ None → now ≡ then) → cond t (Some c) now ≡ then
passed true c was now then e later = absurd (none-some c (sym e))
passed false c was now then e later = later e

-- where nothing is found, a block that is added last is looked at
block_at_push : (bs : List (List ℕ)) (b id : List ℕ) → block_at bs id ≡ None → block_at (bs ++ b ∷ []) id ≡ cond (same_text (id_of b) id) (Some b) None
block_at_push [] b id e = refl
block_at_push (c ∷ bs) b id e = passed (same_text (id_of c) id) c (block_at bs id) (block_at (bs ++ b ∷ []) id) (cond (same_text (id_of b) id) (Some b) None) e (block_at_push bs b id)

told_apart : (t : Bool) (xs ys : List ℕ) → t ≡ same_text xs ys → xs ≢ ys → same_text xs ys ≡ false
told_apart true xs ys is apart = absurd (apart (texts_same xs ys is))
told_apart false xs ys is apart = sym is

pub apart_false : (xs ys : List ℕ) → xs ≢ ys → same_text xs ys ≡ false
apart_false xs ys apart = told_apart (same_text xs ys) xs ys refl apart

other_push : (bs : List (List ℕ)) (b id : List ℕ) → id_of b ≢ id → block_at (bs ++ b ∷ []) id ≡ block_at bs id
other_push [] b id apart = rw (apart_false (id_of b) id apart) refl
other_push (c ∷ bs) b id apart = ap (cond (same_text (id_of c) id) (Some c)) (other_push bs b id apart)

-- a block that isn't held, added last
pub Adds-push : (bs : List (List ℕ)) (b : List ℕ) → block_at bs (id_of b) ≡ None → Adds b bs (bs ++ b ∷ [])
Adds-push bs b free = record {
  held = block_at_push bs b (id_of b) free ∙ rw (nat_list_eq_equiv.refl (id_of b)) refl;
  others = λ id apart. other_push bs b id apart;
}

-- a block that is held already
pub Adds-held : (bs : List (List ℕ)) (b : List ℕ) → block_at bs (id_of b) ≡ Some b → Adds b bs bs
Adds-held bs b held = record { held = held; others = λ id apart. refl }

at_free : (block c : List ℕ) (was : Option (List ℕ)) → (was ≡ None) ⊎ (was ≡ Some block) → was ≡ Some c → Some block ≡ Some c
at_free block c was (inl e) held = absurd (none-some c (sym e ∙ held))
at_free block c was (inr e) held = sym e ∙ held

by_test : (t : Bool) (block : List ℕ) (was now : List (List ℕ)) → IsFree block was → Adds block was now → (id c : List ℕ) → t ≡ same_text (id_of block) id → block_at was id ≡ Some c → block_at now id ≡ Some c
by_test true block was now free adds id c is held =
    let same : id_of block ≡ id = texts_same (id_of block) id is in
    ap (block_at now) (sym same) ∙ adds.held ∙ at_free block c (block_at was (id_of block)) free (ap (block_at was) same ∙ held)
by_test false block was now free adds id c is held = adds.others id (other_text (id_of block) id is) ∙ held

-- a store keeps what it holds where a free block is added
pub keeps_adds : (block : List ℕ) (was now : List (List ℕ)) → IsFree block was → Adds block was now → Keeps was now
keeps_adds block was now free adds id c held = by_test (same_text (id_of block) id) block was now free adds id c refl held

pub keeps_all : (was : List (List ℕ)) → Keeps was was
keeps_all was id b held = held
