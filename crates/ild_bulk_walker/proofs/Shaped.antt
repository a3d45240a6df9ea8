-- What calls say of a walk, where its shape is known by another name.
use Rattle.std.proofs.Common.{◌≡◌, ℕ, Bool, List, subst}
use Rattle.std.specs.Prelude.{Option, Result}
use Rattle.ild_data.specs.declared.hamt_shape.HamtShape.{HamtShape}
use Rattle.ild_data.specs.TrieShape.{trie_levels}
use Rattle.ild_edges.specs.Store.{Moment}
use Rattle.ild_node_slots.specs.declared.fault.HamtFault.{HamtFault}
use Rattle.ild_bulk_walker.specs.Ahead.{Nexts}
use Rattle.ild_bulk_walker.specs.inside.Stepping.{AnyRow, Enters, Gives, Leaves}
use Rattle.ild_bulk_walker.specs.declared.row.Row.{Row}
use Rattle.ild_bulk_walker.specs.declared.walker.Walker.{Walker}

pub leaves-at : {q p : HamtShape} {v w : Walker} {r : Result (Unit {0}) HamtFault} → q ≡ p → Leaves q v r w → Leaves p v r w
leaves-at {v = v} {w = w} {r = r} same l = subst (λ (s : HamtShape). Leaves s v r w) same l

pub enters-at : {q p : HamtShape} {most : ℕ} {m n : Moment} {v w : Walker} {r : Result (Unit {0}) HamtFault} → q ≡ p → Enters q most m v r w n → Enters p most m v r w n
enters-at {most = most} {m = m} {n = n} {v = v} {w = w} {r = r} same e = subst (λ (s : HamtShape). Enters s most m v r w n) same e

pub enters-all : {q p : HamtShape} {m n : Moment} {v w : Walker} {r : Result (Unit {0}) HamtFault} → q ≡ p → Enters q (trie_levels q) m v r w n → Enters p (trie_levels p) m v r w n
enters-all {m = m} {n = n} {v = v} {w = w} {r = r} same e = subst (λ (s : HamtShape). Enters s (trie_levels s) m v r w n) same e

pub gives-at : {h : List ℕ → List ℕ} {q p : HamtShape} {v w : Walker} {r : Result (Option Row) HamtFault} → q ≡ p → Gives h q v r w → Gives h p v r w
gives-at {h = h} {v = v} {w = w} {r = r} same g = subst (λ (s : HamtShape). Gives h s v r w) same g

pub any-gives : (h : List ℕ → List ℕ) (q p : HamtShape) (v w : Walker) (r : Result Bool HamtFault) → q ≡ p → AnyRow (λ r. Gives h q v r w) r → AnyRow (λ r. Gives h p v r w) r
any-gives h q p v w r same g = subst (λ (s : HamtShape). AnyRow (λ r. Gives h s v r w) r) same g

pub nexts-at : {h : List ℕ → List ℕ} {q p : HamtShape} {m n : Moment} {v w : Walker} {r : Result (Option Row) HamtFault} → q ≡ p → Nexts h q m v r w n → Nexts h p m v r w n
nexts-at {h = h} {m = m} {n = n} {v = v} {w = w} {r = r} same x = subst (λ (s : HamtShape). Nexts h s m v r w n) same x
