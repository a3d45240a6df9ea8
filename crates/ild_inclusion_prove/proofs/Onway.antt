-- The blocks of a descent are the way of its key.
use Rattle.std.proofs.Common.{◌≡◌, ◌<◌, ℕ, ◌+◌, List, [], ◌∷◌, ◌++◌, length, true≢false, false, Option, refl, sym, subst, arith}
use Rattle.std.specs.FinMap.{find}
use Rattle.std.specs.Prelude.{get_or}
use Rattle.ild_bulk_walker.specs.Gives.{IsNodeOf as IsNodeBlock}
use Rattle.ild_data.specs.ByteOrder.{bytewise}
use Rattle.ild_data.specs.Data.{Data}
use Rattle.ild_data.specs.Spell.{id_of}
use Rattle.ild_data.specs.Trie.{TrieSlot, empty, bucket, child, is_child, bucket_entries, node_data}
use Rattle.ild_data.specs.TrieShape.{index, trie_levels}
use Rattle.ild_data.specs.declared.hamt_shape.HamtShape.{HamtShape}
use Rattle.ild_hamt_climb.specs.Way.{Leads, slot_for}
use Rattle.ild_inclusion.specs.Branches.{so, found}
use Rattle.ild_inclusion.specs.Way.{AtSlot, LevelLeft, NodeIn, OnWay}
use Rattle.ild_inclusion.specs.declared.fault.Reject.{Reject}
use Rattle.ild_inclusion.specs.declared.fault.Reject.TheVariants as R

-- a slot without a link ends the way, with the value at the key
at_end : (key : List ℕ) (E : Option Data → Type 0) (On : List ℕ → Type 0) (s : TrieSlot) → is_child s ≡ false → E (find bytewise key (bucket_entries s)) → AtSlot key E On s
at_end key E On empty leaf e = e
at_end key E On (bucket es) leaf e = e
at_end key E On (child id) leaf e = absurd (true≢false leaf)

module _ (p : HamtShape) (hash key : List ℕ) (E : ℕ → List (List ℕ) → Option Data → Type 0) (Wrong : Reject → Type 0) where
  ends_at : (depth i : ℕ) (slots : List TrieSlot) (rest : List (List ℕ)) → is_child (slot_for p hash depth slots) ≡ false → E i rest (find bytewise key (bucket_entries (slot_for p hash depth slots))) → OnWay p hash key E Wrong depth i slots rest
  ends_at depth i slots [] leaf e = at_end key (E i []) (λ id. LevelLeft p depth i (Wrong (R.Missing (i + 1))) Wrong) (get_or slots (index p hash depth) empty) leaf e
  ends_at depth i slots (b ∷ bs) leaf e =
      at_end key (E i (b ∷ bs)) (λ id. LevelLeft p depth i (NodeIn p id (i + 1) b (λ below. OnWay p hash key E Wrong (depth + 1) (i + 1) below bs) Wrong) Wrong) (get_or slots (index p hash depth) empty) leaf e

  goes_by : (depth i : ℕ) (slots : List TrieSlot) (b : List ℕ) (rest : List (List ℕ)) (next : List TrieSlot) → slot_for p hash depth slots ≡ child (id_of b) → IsNodeBlock p b next → depth + 1 < trie_levels p
      → OnWay p hash key E Wrong (depth + 1) (i + 1) next rest → OnWay p hash key E Wrong depth i slots (b ∷ rest)
  goes_by depth i slots b rest next link node lt on =
      subst (λ (s : TrieSlot). AtSlot key (E i (b ∷ rest)) (λ id. LevelLeft p depth i (NodeIn p id (i + 1) b (λ below. OnWay p hash key E Wrong (depth + 1) (i + 1) below rest) Wrong) Wrong) s) (sym link)
      (so lt (so refl (found (node_data next) node.is (found next (record { form = node.form; tree = refl }) on))))

  -- through all blocks of a descent, which ends at a depth, in a block
  pub way_through : (bs : List (List ℕ)) (depth i at j : ℕ) (slots last : List TrieSlot) (rest : List (List ℕ)) → at ≡ depth + length bs → j ≡ i + length bs → at < trie_levels p → Leads p hash depth slots bs last
      → is_child (slot_for p hash at last) ≡ false → E j rest (find bytewise key (bucket_entries (slot_for p hash at last))) → OnWay p hash key E Wrong depth i slots (bs ++ rest)
  way_through [] depth i at j slots last rest e f lt leads leaf ends =
      let a : at ≡ depth = omega (arith, e) in
      let b : j ≡ i = omega (arith, f) in
      subst (λ (s : List TrieSlot). OnWay p hash key E Wrong depth i s rest) (sym leads)
      (subst (λ (d : ℕ). OnWay p hash key E Wrong d i last rest) a (subst (λ (n : ℕ). OnWay p hash key E Wrong at n last rest) b (ends_at at j last rest leaf ends)))
  way_through (b ∷ bs) depth i at j slots last rest e f lt leads leaf ends =
      goes_by depth i slots b (bs ++ rest) leads.0 leads.1 leads.2 (omega (arith, e, lt)) (way_through bs (depth + 1) (i + 1) at j leads.0 last rest (omega (arith, e)) (omega (arith, f)) lt leads.3 leaf ends)
