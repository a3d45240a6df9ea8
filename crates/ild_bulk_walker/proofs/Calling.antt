-- The gets of any number of calls.
use Rattle.std.proofs.Common.{◌≡◌, ℕ, ◌+◌, ◌≤◌, List, [], ◌∷◌, Option, Some, sym, subst, refl, arith}
use Rattle.std.specs.Prelude.{Result, IfErr}
use Rattle.ild_data.specs.declared.hamt_shape.HamtShape.{HamtShape}
use Rattle.ild_data.specs.Trie.{TrieSlot}
use Rattle.ild_data.specs.TrieShape.{trie_levels}
use Rattle.ild_edges.specs.Gained.{OnlyReads}
use Rattle.ild_edges.specs.Store.{Moment}
use Rattle.ild_edges.proofs.Reading.{reads_none, reads_then}
use Rattle.ild_node_slots.specs.declared.fault.HamtFault.{HamtFault}
use Rattle.ild_bulk_walker.specs.Ahead.{IsNewLeft, KeepsWhere}
use Rattle.ild_bulk_walker.specs.Calls.{Calls, fails_in}
use Rattle.ild_bulk_walker.specs.Reads.{NodesBeneath, HasRead, fails_of}
use Rattle.ild_bulk_walker.specs.declared.row.Row.{Row}
use Rattle.ild_bulk_walker.specs.declared.walker.Walker.{Walker}
use Rattle.ild_bulk_walker.proofs.Resuming.{told-are, only-reads, read-nothing, read-both}

calls-read : (p : HamtShape) (h : List ℕ → List ℕ) (rs : List (Result (Option Row) HamtFault)) (m n : Moment) (v w : Walker) → Calls h p rs m v w n → OnlyReads m n
calls-read p h [] m n v w c = subst (OnlyReads m) (sym c.1) (reads_none m)
calls-read p h (r ∷ rs) m n v w c = reads_then m c.1 n (only-reads (trie_levels p) m c.1 c.2.only) (calls-read p h rs c.1 n c.0 w c.3)

pub gets-what-it-enters : (p : HamtShape) (h : List ℕ → List ℕ) (rs : List (Result (Option Row) HamtFault)) (m n : Moment) (v w : Walker) → Calls h p rs m v w n → HasRead p (λ blocks. Unit {0}) (fails_in rs) m v w n
gets-what-it-enters p h [] m n v w c =
    subst (λ x. HasRead p (λ blocks. Unit {0}) 0 m v x n) (sym c.0) (subst (λ k. HasRead p (λ blocks. Unit {0}) 0 m v v k) (sym c.1) (read-nothing p (λ blocks. Unit {0}) 0 m m v v (omega arith) (λ held k l. l) tt))
gets-what-it-enters p h (r ∷ rs) m n v w c =
    let u = c.0 in
    let k = c.1 in
    let first = c.2 in
    read-both p (λ blocks. IfErr r (λ e. KeepsWhere h p blocks v u)) (λ blocks. Unit {0}) (λ blocks. Unit {0}) (fails_of r + fails_in rs) m k n v u w first.only.blocks (calls-read p h rs k n u w c.3) (λ xs ys s q. tt) (fails_of r) (fails_in rs) refl first.read
    (gets-what-it-enters p h rs k n u w c.3)

pub gets-in-all : (p : HamtShape) (h : List ℕ → List ℕ) (rs : List (Result (Option Row) HamtFault)) (m n : Moment) (v w : Walker) (slots : List TrieSlot) (held : List (List ℕ)) (many : ℕ)
    → IsNewLeft p slots v → Calls h p rs m v w n → m.blocks ≡ Some held → NodesBeneath p held slots many → n.gets ≤ m.gets + (many + fails_in rs)
gets-in-all p h rs m n v w slots held many new c told nodes =
    let r = gets-what-it-enters p h rs m n v w c in
    let q = r.left held many (told-are m.blocks held r.blocks told r.held) (new held many nodes) in
    let gets = r.gets in
    let is = q.1 in
    omega arith
