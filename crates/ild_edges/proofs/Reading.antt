-- What gets found out: carried over, joined, and held by the blocks themselves.
use Rattle.std.proofs.Common.{◌≡◌, ◌⊎◌, inl, inr, ⊎_elim, ℕ, List, [], ◌∷◌, ◌++◌, Bool, true, false, cond, Option, Some, Result, Ok, refl, sym, ap, ◌∙◌, subst}
use Rattle.std.proofs.Math.Logic.{∥∥₁_elim, ∥∥₁_map}
use Rattle.std.proofs.Props.{props}
use Rattle.std.specs.List.{AllByRecursion, slice_get}
use Rattle.std.specs.Cmp.Lexicographic.{same_text as texts_same, other_text, nat_list_eq_equiv}
use Rattle.std.proofs.lemmas.Option.{same_Some, none-some}
use Rattle.ild_data.specs.Bytes.{AreBytes}
use Rattle.ild_data.specs.Key.{same_text}
use Rattle.ild_data.specs.Spell.{id_of}
use Rattle.ild_edges.specs.Among.{IsIn}
use Rattle.ild_edges.specs.Gained.{AreHeld, FromBlocks, HaveClash, IsGot, OnlyReads}
use Rattle.ild_edges.specs.Store.{Keeps, Moment, Gets, StaysGiven, asked_over, block_at}
use Rattle.ild_edges.specs.Told.{BothTold, IfTold}
use Rattle.ild_edges.proofs.Among.{IsIn-contains}
use Rattle.ild_edges.specs.declared.error.EdgeErr.{EdgeErr}
use Rattle.ild_edges.proofs.Held.{block_at_id}
use Rattle.ild_edges.proofs.Later.{Later-refl, Later-trans, below_of, given_refl, keeps_refl}

-- ---- blocks that are held

held_both : (xs ys held : List (List ℕ)) → AreHeld xs held → AreHeld ys held → AreHeld (xs ++ ys) held
held_both [] ys held a b = b
held_both (x ∷ xs) ys held a b = (a.0, held_both xs ys held a.1 b)

held_first : (xs ys held : List (List ℕ)) → AreHeld (xs ++ ys) held → AreHeld xs held
held_first [] ys held a = tt
held_first (x ∷ xs) ys held a = (a.0, held_first xs ys held a.1)

held_second : (xs ys held : List (List ℕ)) → AreHeld (xs ++ ys) held → AreHeld ys held
held_second [] ys held a = a
held_second (x ∷ xs) ys held a = held_second xs ys held a.1

bytes_both : (xs ys : List (List ℕ)) → AllByRecursion AreBytes xs → AllByRecursion AreBytes ys → AllByRecursion AreBytes (xs ++ ys)
bytes_both [] ys a b = b
bytes_both (x ∷ xs) ys a b = (a.0, bytes_both xs ys a.1 b)

got_both : (n : Moment) (xs ys : List (List ℕ)) → AllByRecursion (IsGot n) xs → AllByRecursion (IsGot n) ys → AllByRecursion (IsGot n) (xs ++ ys)
got_both n [] ys a b = b
got_both n (x ∷ xs) ys a b = (a.0, got_both n xs ys a.1 b)

-- ---- gets alone

pub kept_same : (a b : Option (List (List ℕ))) → b ≡ a → BothTold a b Keeps
kept_same a b is = subst (λ (x : Option (List (List ℕ))). BothTold a x Keeps) (sym is) (keeps_refl a)

pub given_same : (a b : Option (List (List ℕ))) → b ≡ a → BothTold a b StaysGiven
given_same a b is = subst (λ (x : Option (List (List ℕ))). BothTold a x StaysGiven) (sym is) (given_refl a)

-- of which it is known that they were
pub only_of : (m n : Moment) → ∥ OnlyReads m n ∥₁ → OnlyReads m n
only_of m n some =
    let blocks : n.blocks ≡ m.blocks = ∥∥₁_elim some (hlevel props) (λ o. o.blocks) in
    let given : n.given ≡ m.given = ∥∥₁_elim some (hlevel props) (λ o. o.given) in
    record {
      blocks = blocks;
      given = given;
      puts = ∥∥₁_elim some (hlevel props) (λ o. o.puts);
      later = record {
        keeps = kept_same m.blocks n.blocks blocks;
        given = given_same m.given n.given given;
        gets = ∥∥₁_elim some (hlevel props) (λ o. o.later.gets);
        puts = ∥∥₁_elim some (hlevel props) (λ o. o.later.puts);
        lacks = ∥∥₁_elim some (hlevel props) (λ o. o.later.lacks);
        faults = ∥∥₁_elim some (hlevel props) (λ o. o.later.faults);
        beneath = λ i. below_of (asked_over m i) (asked_over n i) (slice_get m.beneath i) (slice_get n.beneath i) (∥∥₁_map some (λ o. o.later.beneath i));
      };
    }

pub reads_none : (m : Moment) → OnlyReads m m
reads_none m = record { later = Later-refl m; blocks = refl; given = refl; puts = refl }

pub reads_then : (m k n : Moment) → OnlyReads m k → OnlyReads k n → OnlyReads m n
reads_then m k n a b = record { later = Later-trans m k n a.later b.later; blocks = b.blocks ∙ a.blocks; given = b.given ∙ a.given; puts = b.puts ∙ a.puts }

pub get_reads : (m n : Moment) (id : List ℕ) (r : Result (Option (List ℕ)) EdgeErr) → Gets m id r n → OnlyReads m n
get_reads m n id r g = record { later = g.later; blocks = g.blocks; given = g.given; puts = g.puts }

-- what a get gave is held, where the store tells
got_held : (n : Moment) (b : List ℕ) → IsGot n b → (held : List (List ℕ)) → n.blocks ≡ Some held → block_at held (id_of b) ≡ Some b
got_held n b g held is = subst (λ o. IfTold o (λ bs. block_at bs (id_of b) ≡ Some b)) (sym g.get.blocks ∙ sym g.since.blocks ∙ is) g.get.answer.1

all_held : (n : Moment) (bs : List (List ℕ)) → AllByRecursion (IsGot n) bs → (held : List (List ℕ)) → n.blocks ≡ Some held → AreHeld bs held
all_held n [] all held is = tt
all_held n (b ∷ bs) all held is = (got_held n b all.0 held is, all_held n bs all.1 held is)

pub all_later : (m n : Moment) → OnlyReads m n → (bs : List (List ℕ)) → AllByRecursion (IsGot m) bs → AllByRecursion (IsGot n) bs
all_later m n only [] all = tt
all_later m n only (b ∷ bs) all = (record { before = all.0.before; behind = all.0.behind; get = all.0.get; since = reads_then all.0.behind m n all.0.since only }, all_later m n only bs all.1)

-- ---- what follows from blocks

-- where the store tells, it holds of what the store tells
pub from_told : (n : Moment) (P : List (List ℕ) → Type 0) → FromBlocks n P → (held : List (List ℕ)) → n.blocks ≡ Some held → P held
from_told n P r held is = r.so held (all_held n r.blocks r.got held is)

-- from none
pub from_nothing : (n : Moment) (P : List (List ℕ) → Type 0) → ((held : List (List ℕ)) → P held) → FromBlocks n P
from_nothing n P each = record { blocks = []; bytes = tt; got = tt; so = λ held all. each held }

pub from_more : (n : Moment) (P Q : List (List ℕ) → Type 0) → ((held : List (List ℕ)) → P held → Q held) → FromBlocks n P → FromBlocks n Q
from_more n P Q f r = record { blocks = r.blocks; bytes = r.bytes; got = r.got; so = λ held all. f held (r.so held all) }

-- gets alone leave it
pub from_later : (m n : Moment) (P : List (List ℕ) → Type 0) → OnlyReads m n → FromBlocks m P → FromBlocks n P
from_later m n P only r = record { blocks = r.blocks; bytes = r.bytes; got = all_later m n only r.blocks r.got; so = r.so }

pub from_both : (n : Moment) (P Q R : List (List ℕ) → Type 0) → ((held : List (List ℕ)) → P held → Q held → R held) → FromBlocks n P → FromBlocks n Q → FromBlocks n R
from_both n P Q R f x y = record {
  blocks = x.blocks ++ y.blocks;
  bytes = bytes_both x.blocks y.blocks x.bytes y.bytes;
  got = got_both n x.blocks y.blocks x.got y.got;
  so = λ held all. f held (x.so held (held_first x.blocks y.blocks held all)) (y.so held (held_second x.blocks y.blocks held all));
}

-- from the block that a get gave
pub from_one : (m n : Moment) (id b : List ℕ) → AreBytes b → Gets m id (Ok (Some b)) n → FromBlocks n (λ held. block_at held id ≡ Some b)
from_one m n id b bytes gets = record {
  blocks = b ∷ [];
  bytes = (bytes, tt);
  got = (record { before = m; behind = n; get = subst (λ i. Gets m i (Ok (Some b)) n) (sym gets.answer.0) gets; since = reads_none n }, tt);
  so = λ held all. subst (λ i. block_at held i ≡ Some b) gets.answer.0 all.0;
}

-- ---- in the blocks themselves

-- a block, and what is found under its id
found_by : (b c id : List ℕ) (t : Bool) (rest : Option (List ℕ)) → cond t (Some b) rest ≡ Some c → (c ≡ b) ⊎ (rest ≡ Some c)
found_by b c id true rest is = inl (sym (same_Some b c is))
found_by b c id false rest is = inr is

block_in : (bs : List (List ℕ)) (id c : List ℕ) → block_at bs id ≡ Some c → IsIn c bs
block_in [] id c is = absurd (none-some c is)
block_in (b ∷ bs) id c is = ⊎_elim (λ here. inl here) (λ more. inr (block_in bs id c more)) (found_by b c id (same_text (id_of b) id) (block_at bs id) is)

found_here : (x b : List ℕ) (xs : List (List ℕ)) (t : Bool) → t ≡ same_text (id_of x) (id_of b) → (b ≡ x) ⊎ ((c : List ℕ) × (block_at xs (id_of b) ≡ Some c)) → (c : List ℕ) × (cond t (Some x) (block_at xs (id_of b)) ≡ Some c)
found_here x b xs true is either = (x, refl)
found_here x b xs false is (inl same) = absurd (let no : false ≡ true = is ∙ ap (λ y. same_text (id_of y) (id_of b)) (sym same) ∙ nat_list_eq_equiv.refl (id_of b) in cc)
found_here x b xs false is (inr more) = more

found_like : (bs : List (List ℕ)) (b : List ℕ) → IsIn b bs → (c : List ℕ) × (block_at bs (id_of b) ≡ Some c)
found_like [] b is = absurd is
found_like (x ∷ xs) b (inl same) = found_here x b xs (same_text (id_of x) (id_of b)) refl (inl same)
found_like (x ∷ xs) b (inr more) = found_here x b xs (same_text (id_of x) (id_of b)) refl (inr (found_like xs b more))

bytes_of : (bs : List (List ℕ)) (b : List ℕ) → AllByRecursion AreBytes bs → IsIn b bs → AreBytes b
bytes_of [] b all is = absurd is
bytes_of (x ∷ xs) b all (inl same) = subst AreBytes (sym same) all.0
bytes_of (x ∷ xs) b all (inr more) = bytes_of xs b all.1 more

-- one of them is what is found under its id, or collides with that
one_held : (bs : List (List ℕ)) (b c : List ℕ) (t : Bool) → t ≡ same_text c b → AllByRecursion AreBytes bs → IsIn b bs → block_at bs (id_of b) ≡ Some c → (block_at bs (id_of b) ≡ Some b) ⊎ HaveClash bs
one_held bs b c true is all among found = inl (found ∙ ap Some (texts_same c b is))
one_held bs b c false is all among found = inr (record {
  kept = c;
  new = b;
  one = IsIn-contains c bs (block_in bs (id_of b) c found);
  other = IsIn-contains b bs among;
  collide = record { kept_bytes = bytes_of bs c all (block_in bs (id_of b) c found); new_bytes = bytes_of bs b all among; differ = other_text c b is; one_id = block_at_id bs (id_of b) c found };
})

some_held : (some bs : List (List ℕ)) → AllByRecursion AreBytes bs → ((b : List ℕ) → IsIn b some → IsIn b bs) → AreHeld some bs ⊎ HaveClash bs
some_held [] bs all among = inl tt
some_held (b ∷ some) bs all among =
    let here = among b (inl refl) in
    let found = found_like bs b here in
    ⊎_elim (λ held. ⊎_elim (λ more. inl (held, more)) (λ clash. inr clash) (some_held some bs all (λ c is. among c (inr is)))) (λ clash. inr clash)
    (one_held bs b found.0 (same_text found.0 b) refl all here found.1)

pub hold_themselves : (blocks : List (List ℕ)) → AllByRecursion AreBytes blocks → AreHeld blocks blocks ⊎ HaveClash blocks
hold_themselves blocks bytes = some_held blocks blocks bytes (λ b is. is)
