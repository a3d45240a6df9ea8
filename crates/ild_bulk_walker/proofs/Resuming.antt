-- What blocks that were read say over every store.
use Rattle.std.proofs.Common.{◌≡◌, ◌↔◌, ℕ, ◌+◌, ◌≤◌, List, [], ◌∷◌, ◌++◌, Option, Some, None, sym, subst, arith}
use Rattle.std.proofs.lemmas.List.{length-append}
use Rattle.ild_data.proofs.AllOf.{all_append, all_split}
use Rattle.ild_data.specs.Bytes.{AreBytes}
use Rattle.ild_data.specs.Data.{Data}
use Rattle.ild_data.specs.declared.hamt_shape.HamtShape.{HamtShape}
use Rattle.ild_data.specs.Spell.{id_of}
use Rattle.ild_data.specs.Trie.{TrieSlot}
use Rattle.ild_edges.specs.Gained.{AreHeld, FromBlocks, IsGot, OnlyReads}
use Rattle.ild_edges.specs.Store.{Moment, block_at}
use Rattle.ild_edges.specs.Told.{IfTold}
use Rattle.ild_edges.proofs.Reading.{all_later}
use Rattle.ild_bulk_walker.specs.Ahead.{StillAhead}
use Rattle.ild_bulk_walker.specs.inside.Stepping.{SameNodes, SameWhere}
use Rattle.ild_bulk_walker.specs.Fetching.{OnlyGets}
use Rattle.ild_bulk_walker.specs.Gives.{IsNodeOf}
use Rattle.ild_bulk_walker.specs.Reads.{HasRead}
use Rattle.ild_bulk_walker.specs.declared.walker.Walker.{Walker}

-- ---- blocks that are held

holds-both : (held xs ys : List (List ℕ)) → AreHeld xs held → AreHeld ys held → AreHeld (xs ++ ys) held
holds-both held xs ys = all_append (λ b. block_at held (id_of b) ≡ Some b) xs ys

holds-first : (held xs ys : List (List ℕ)) → AreHeld (xs ++ ys) held → AreHeld xs held
holds-first held xs ys all = (all_split (λ b. block_at held (id_of b) ≡ Some b) xs ys all).0

holds-second : (held xs ys : List (List ℕ)) → AreHeld (xs ++ ys) held → AreHeld ys held
holds-second held xs ys all = (all_split (λ b. block_at held (id_of b) ≡ Some b) xs ys all).1

told-none : (told : Option (List (List ℕ))) → IfTold told (λ held. AreHeld [] held)
told-none None = tt
told-none (Some held) = tt

told-both : (told : Option (List (List ℕ))) (xs ys : List (List ℕ)) → IfTold told (λ held. AreHeld xs held) → IfTold told (λ held. AreHeld ys held) → IfTold told (λ held. AreHeld (xs ++ ys) held)
told-both None xs ys s q = tt
told-both (Some held) xs ys s q = holds-both held xs ys s q

pub told-one : (told : Option (List (List ℕ))) (id block : List ℕ) → id_of block ≡ id → IfTold told (λ held. block_at held id ≡ Some block) → IfTold told (λ held. AreHeld (block ∷ []) held)
told-one None id block named q = tt
told-one (Some held) id block named q = (subst (λ i. block_at held i ≡ Some block) (sym named) q, tt)

pub told-are : (told : Option (List (List ℕ))) (held blocks : List (List ℕ)) → told ≡ Some held → IfTold told (λ held. AreHeld blocks held) → AreHeld blocks held
told-are told held blocks is q = subst (λ o. IfTold o (λ held. AreHeld blocks held)) is q

pub holds-one : (held : List (List ℕ)) (id block : List ℕ) → id_of block ≡ id → AreHeld (block ∷ []) held → block_at held id ≡ Some block
holds-one held id block named q = subst (λ i. block_at held i ≡ Some block) named q.0

-- ---- blocks that gets gave

pub only-reads : (most : ℕ) (m n : Moment) → OnlyGets most m n → OnlyReads m n
only-reads most m n x = record { later = x.later; blocks = x.blocks; given = x.given; puts = x.puts }

-- ---- what was read

no-block : (n : ℕ) → n ≡ 0 + n
no-block n = omega arith

no-get : (a b c : ℕ) → a ≤ b + c → a ≤ b + (0 + c)
no-get a b c le = omega arith

pub read-nothing : (p : HamtShape) (P : List (List ℕ) → Type 0) (besides : ℕ) (m n : Moment) (v w : Walker) → n.gets ≤ m.gets + besides → SameNodes p v w → P [] → HasRead p P besides m v w n
read-nothing p P besides m n v w gets same q = record {
  blocks = [];
  bytes = tt;
  nodes = tt;
  got = tt;
  held = told-none m.blocks;
  gets = no-get n.gets m.gets besides gets;
  left = λ held k all l. (k, no-block k, same held k l);
  says = q;
}

pub read-both : (p : HamtShape) (P Q R : List (List ℕ) → Type 0) (besides : ℕ) (m n o : Moment) (u v w : Walker) → n.blocks ≡ m.blocks → OnlyReads n o → ((xs ys : List (List ℕ)) → P xs → Q ys → R (xs ++ ys)) → (a b : ℕ) → a + b ≡ besides → HasRead p P a m u v n → HasRead p Q b n v w o → HasRead p R besides m u w o
read-both p P Q R besides m n o u v w same since both a b sum x y =
    let long = length-append x.blocks y.blocks in
    record {
      blocks = x.blocks ++ y.blocks;
      bytes = all_append AreBytes x.blocks y.blocks x.bytes y.bytes;
      nodes = all_append (λ b. (slots : List TrieSlot) × IsNodeOf p b slots) x.blocks y.blocks x.nodes y.nodes;
      got = all_append (IsGot o) x.blocks y.blocks (all_later n o since x.blocks x.got) y.got;
      held = told-both m.blocks x.blocks y.blocks x.held (subst (λ told. IfTold told (λ held. AreHeld y.blocks held)) same y.held);
      gets = let s = x.gets in let q = y.gets in omega arith;
      left = λ held k all l.
          let s = x.left held k (holds-first held x.blocks y.blocks all) l in
          let q = y.left held s.0 (holds-second held x.blocks y.blocks all) s.2 in
          (q.0, let one = s.1 in let two = q.1 in omega arith, q.2);
      says = both x.blocks y.blocks x.says y.says;
    }

-- what holds wherever the blocks are held follows from them
pub read-from : (p : HamtShape) (Says : List (List ℕ) → Type 0) (P : List (List ℕ) → Type 0) (besides : ℕ) (m n : Moment) (v w : Walker) → (r : HasRead p Says besides m v w n) → ((held : List (List ℕ)) → AreHeld r.blocks held → P held) → FromBlocks n P
read-from p Says P besides m n v w r so = record { blocks = r.blocks; bytes = r.bytes; got = r.got; so = so }

pub where-itself : (p : HamtShape) (v : Walker) → SameWhere p [] v v
where-itself p v = λ h held es all. (λ s. s, λ s. s)

pub where-both : (p : HamtShape) (u v w : Walker) (xs ys : List (List ℕ)) → SameWhere p xs u v → SameWhere p ys v w → SameWhere p (xs ++ ys) u w
where-both p u v w xs ys a b = λ h held es all. (
  λ s. (b h held es (holds-second held xs ys all)).0 ((a h held es (holds-first held xs ys all)).0 s),
  λ s. (a h held es (holds-first held xs ys all)).1 ((b h held es (holds-second held xs ys all)).1 s),
)

-- where the store tells what it holds
pub where-told : (p : HamtShape) (besides : ℕ) (m n : Moment) (v w : Walker) → HasRead p (λ blocks. SameWhere p blocks v w) besides m v w n
    → (h : List ℕ → List ℕ) (held : List (List ℕ)) (es : List (List ℕ × Data)) → m.blocks ≡ Some held → StillAhead h p held v es ↔ StillAhead h p held w es
where-told p besides m n v w r = λ h held es told. r.says h held es (told-are m.blocks held r.blocks told r.held)
