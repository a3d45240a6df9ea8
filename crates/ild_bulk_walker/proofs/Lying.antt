-- Where an entry stands in its block.
use Rattle.std.proofs.Common.{◌≡◌, ℕ, ◌+◌, ◌-◌, ◌≤◌, true, List, ◌++◌, length, take, drop, sym, ap, ◌∙◌, subst, arith, append_assoc}
use Rattle.std.specs.Str.{is_utf8}
use Rattle.std.proofs.lemmas.Str.{is_utf8-from_IsUtf8}
use Rattle.std.proofs.lemmas.List.{length-append, take_at, drop_at}
use Rattle.ild_data.specs.Data.{Data}
use Rattle.ild_data.specs.Spell.{spell}
use Rattle.ild_data.specs.Limits.{IsWithin}
use Rattle.ild_cbor.specs.Block.{IsBlockOf}
use Rattle.ild_cbor.specs.Nodes.{start_of}
use Rattle.ild_cbor.specs.declared.node.Node.{Node}
use Rattle.ild_node_slots.specs.Spelled.{tree_in, IsFaultless}
use Rattle.ild_node_slots.proofs.Trees.{faultless, spelled-value}
use Rattle.ild_bulk_walker.specs.Pieces.{piece}
use Rattle.ild_bulk_walker.specs.inside.Told.{Lies}

-- ---- their places

key-begins : (front k : List ℕ) (at n : ℕ) → length front + length k ≡ at → n ≡ length k → at - n ≡ length front
key-begins front k at n place long = omega arith

pub key-piece : (b k : List ℕ) (v : Node) (d : Data) (at n : ℕ) → Lies b k v d → at ≡ start_of v → n ≡ length k → piece b (at - n) at ≡ k
key-piece b k v d at n l start long =
    let place = l.place in
    let from : at - n ≡ length l.front = key-begins l.front k at n (place ∙ sym start) long in
    let size : at - (at - n) ≡ length k = omega (arith, from, place, start, long) in
    ap (λ (x : List ℕ). take (at - (at - n)) x) (ap (drop (at - n)) l.is ∙ drop_at l.front (k ++ (spell d ++ l.after)) (at - n) (sym from)) ∙ take_at k (spell d ++ l.after) (at - (at - n)) (sym size)

pub value-piece : (b k : List ℕ) (v : Node) (d : Data) (at size : ℕ) → Lies b k v d → at ≡ start_of v → size ≡ length (spell d) → piece b at (at + size) ≡ spell d
value-piece b k v d at size l start long =
    let place = l.place in
    let front : length (l.front ++ k) ≡ at = length-append l.front k ∙ place ∙ sym start in
    let more : length (spell d) ≡ (at + size) - at = omega (arith, long) in
    ap (λ (x : List ℕ). take ((at + size) - at) x) (ap (drop at) (l.is ∙ sym (append_assoc l.front k (spell d ++ l.after))) ∙ drop_at (l.front ++ k) (spell d ++ l.after) at front) ∙ take_at (spell d) l.after ((at + size) - at) more

pub fits-in : (b k : List ℕ) (v : Node) (d : Data) (at size : ℕ) → Lies b k v d → at ≡ start_of v → size ≡ length (spell d) → at + size ≤ length b
fits-in b k v d at size l start long =
    let place = l.place in
    omega (arith, place, start, long, ap (λ (x : List ℕ). length x) l.is, length-append l.front (k ++ (spell d ++ l.after)), length-append k (spell d ++ l.after), length-append (spell d) l.after)

pub text-at : (b k : List ℕ) (v : Node) (d : Data) (at n : ℕ) → Lies b k v d → at ≡ start_of v → n ≡ length k → is_utf8 (piece b (at - n) at) ≡ true
text-at b k v d at n l start long = ap is_utf8 (key-piece b k v d at n l start long) ∙ is_utf8-from_IsUtf8 k l.text

pub tree-at : (b k : List ℕ) (v : Node) (d : Data) (at size : ℕ) → Lies b k v d → at ≡ start_of v → size ≡ length (spell d) → IsFaultless (piece b at (at + size))
tree-at b k v d at size l start more = faultless (piece b at (at + size)) d l.stands.within (value-piece b k v d at size l start more)

pub value-there : (b k : List ℕ) (v : Node) (d : Data) (at size : ℕ) → Lies b k v d → at ≡ start_of v → size ≡ length (spell d) → tree_in (piece b at (at + size)) ≡ d
value-there b k v d at size l start more = spelled-value d (piece b at (at + size)) l.stands.within (value-piece b k v d at size l start more)

-- ---- a root

pub root-block : (b : List ℕ) (n d : Data) → IsWithin n → b ≡ spell n → n ≡ d → IsBlockOf b d
root-block b n d within is same = record { within = subst IsWithin same within; spelled = is ∙ ap spell same }
