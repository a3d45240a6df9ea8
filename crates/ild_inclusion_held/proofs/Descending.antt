-- The way of a key through blocks, in a trie whose nodes are known.
use Rattle.std.proofs.Common.{◌≡◌, ℕ, zero, suc, ◌+◌, ◌<◌, List, [], ◌∷◌, length, false, Option, Some, inl, inr, refl, sym, ap, ◌∙◌, subst, arith}
use Rattle.std.specs.Prelude.{◌⊎◌, Contains, get_or}
use Rattle.std.specs.FinMap.{find}
use Rattle.std.proofs.lemmas.Option.{none-some}
use Rattle.ild_cbor.specs.Block.{IsBlockOf}
use Rattle.ild_data.proofs.Apart.{one_meaning}
use Rattle.ild_data.specs.ByteOrder.{IsInOrder, bytewise}
use Rattle.ild_data.specs.Data.{Data}
use Rattle.ild_data.specs.Spell.{id_of, spell}
use Rattle.ild_data.specs.Tree.{IsTree}
use Rattle.ild_data.specs.declared.hamt_shape.HamtShape.{HamtShape}
use Rattle.ild_data.specs.Trie.{TrieSlot, at_depth, bucket, bucket_entries, child, empty, is_child, node_of, part, slots_at}
use Rattle.ild_hamt_trie.proofs.Node.{no_node, slot-child, slot-held}
use Rattle.ild_hamt_trie.proofs.Parts.{in_order-part}
use Rattle.ild_hamt_trie.proofs.Way.{find-along}
use Rattle.ild_typed.proofs.TrieTells.{NodeSlots, node_slots}
use Rattle.ild_typed.specs.Known.{AreKnown}
use Rattle.ild_inclusion.specs.Branches.{found, not_found, not_so, so}
use Rattle.ild_inclusion.specs.Way.{AtSlot, LevelLeft, NodeAt, NodeIn, OnWay, Spelling}
use Rattle.ild_inclusion.specs.declared.fault.Reject.{Reject}
use Rattle.ild_inclusion.specs.declared.fault.Reject.TheVariants as R
use Rattle.ild_inclusion_held.specs.Laws.{TwoCollide}
use Rattle.ild_inclusion_held.proofs.Among.{IsNode, slots_told}
use Rattle.ild_inclusion_held.proofs.Finding.{contains_first, contains_later, same_or_collide}
use Rattle.ild_inclusion_held.proofs.Spelled.{block_bytes, tree_bytes}

-- the block spells the node
pub same_data : (b : List ℕ) (t d : Data) → IsBlockOf b t → IsTree d → b ≡ spell d → t ≡ d
same_data b t d x tree e =
    let v = x.within in
    let small = v.sized in
    one_meaning t d v.tree tree (omega (arith, small)) (sym x.spelled ∙ e)

-- the nodes one level deeper
known_below : (h : List ℕ → List ℕ) (p : HamtShape) (K : Data → Type 0) (left depth : ℕ) (es : List (List ℕ × Data)) → AreKnown h p K (suc left) depth es → (i : ℕ) (n : Data)
    → p.bucket < length (part (at_depth h p depth) es i) → node_of h p left (depth + 1) (part (at_depth h p depth) es i) ≡ Some n → K n × AreKnown h p K left (depth + 1) (part (at_depth h p depth) es i)
unfolding AreKnown
known_below h p K left depth es known = known

module _ (h : List ℕ → List ℕ) (p : HamtShape) (key : List ℕ) (blocks others : List (List ℕ)) (E : ℕ → List (List ℕ) → Option Data → Type 0) (W : Reject → Type 0) (never : (r : Reject) → W r → ⊥) where
  -- where the way ends: what the entries have at the key
  pub record EndsAt (o : Option Data) : Type 0 where
    pub at : ℕ
    pub left : List (List ℕ)
    pub inside : (b : List ℕ) → Contains left b → Contains blocks b
    pub ends : E at left o

  abbrev Told : List (List ℕ × Data) → Type 0
  Told es = EndsAt (find bytewise key es) ⊎ TwoCollide blocks others

  -- what the part of the key has at it, the whole has
  from_part : (depth : ℕ) (es : List (List ℕ × Data)) → Told (part (at_depth h p depth) es (at_depth h p depth key)) → Told es
  from_part depth es t = subst (λ (o : Option Data). EndsAt o ⊎ TwoCollide blocks others) (find-along h p key 1 depth es) t

  -- the ways from a node one level deeper
  abbrev Deeper : ℕ → Type 0
  Deeper left = (depth i : ℕ) (es : List (List ℕ × Data)) (slots : List TrieSlot) (bs : List (List ℕ)) → slots_at h p left depth es ≡ Some slots → IsInOrder es → AreKnown h p (IsNode others) (suc left) depth es
      → ((b : List ℕ) → Contains bs b → Contains blocks b) → OnWay p (h key) key E W depth i slots bs → Told es

  in_node : (left depth i : ℕ) (es : List (List ℕ × Data)) (node : Data) (b : List ℕ) (bs : List (List ℕ)) → Deeper left → node_of h p (suc left) depth es ≡ Some node → IsNode others node → IsInOrder es
      → AreKnown h p (IsNode others) (suc left) depth es → Contains blocks b → ((c : List ℕ) → Contains bs c → Contains blocks c)
      → NodeIn p (id_of (spell node)) i b (λ below. OnWay p (h key) key E W depth i below bs) W → Told es
  in_node left depth i es node b bs deeper there is order below in_ inside (not_so other w) = absurd (never (R.Missing i) w)
  in_node left depth i es node b bs deeper there is order below in_ inside (so named spelling) = by spelling where
    n : NodeSlots h p left depth es node
    n = node_slots h p left depth es node there

    at_node : (t : Data) → t ≡ node → NodeAt p i t (λ slots. OnWay p (h key) key E W depth i slots bs) W → Told es
    at_node t e (found slots node_is way) =
        deeper depth i es n.slots bs n.there order below inside (subst (λ (xs : List TrieSlot). OnWay p (h key) key E W depth i xs bs) (slots_told h p left depth es node slots node_is.form.many (sym node_is.tree ∙ e) n) way)
    at_node t e (not_found none w) = absurd (never (R.Shape i) w)

    at_block : (t : Data) → IsBlockOf b t → NodeAt p i t (λ slots. OnWay p (h key) key E W depth i slots bs) W → (b ≡ spell node) ⊎ TwoCollide blocks others → Told es
    at_block t block rest (inl e) = at_node t (same_data b t node block is.tree e) rest
    at_block t block rest (inr c) = inr c

    by : Spelling i b (λ t. NodeAt p i t (λ slots. OnWay p (h key) key E W depth i slots bs) W) W → Told es
    by (found t block rest) = at_block t block rest (same_or_collide blocks others b (spell node) in_ is.there (block_bytes b t block) (tree_bytes node is.tree) named)
    by (not_found none w) = absurd (never (R.Cbor i) w)

  -- the slot holds the entries of the part
  at_end : (left depth i : ℕ) (es : List (List ℕ × Data)) (slots : List TrieSlot) (bs : List (List ℕ)) → slots_at h p left depth es ≡ Some slots → ((b : List ℕ) → Contains bs b → Contains blocks b)
      → (s : TrieSlot) → get_or slots (at_depth h p depth key) empty ≡ s → is_child s ≡ false → E i bs (find bytewise key (bucket_entries s)) → Told es
  at_end left depth i es slots bs is inside s e other x =
      let held_is = slot-held h p left depth es key slots is (ap is_child e ∙ other) ∙ ap bucket_entries e in
      from_part depth es (inl (record { at = i; left = bs; inside = inside; ends = subst (λ (fs : List (List ℕ × Data)). E i bs (find bytewise key fs)) (sym held_is) x }))

  at_child : (left depth i : ℕ) (es : List (List ℕ × Data)) (slots : List TrieSlot) (b : List ℕ) (bs : List (List ℕ)) → slots_at h p left depth es ≡ Some slots → IsInOrder es → AreKnown h p (IsNode others) (suc left) depth es
      → Contains blocks b → ((c : List ℕ) → Contains bs c → Contains blocks c) → ((l : ℕ) → left ≡ suc l → Deeper l) → (id : List ℕ) → get_or slots (at_depth h p depth key) empty ≡ child id
      → NodeIn p id (i + 1) b (λ below. OnWay p (h key) key E W (depth + 1) (i + 1) below bs) W → Told es
  at_child left depth i es slots b bs is order below in_ inside deeper id e n =
      let c = slot-child h p left depth es key slots id is e in
      let k = known_below h p (IsNode others) left depth es below (at_depth h p depth key) c.1.0 c.0 c.1.1 in
      from_part depth es (by left refl c.1.1 k.1) where
        by : (l : ℕ) → left ≡ l → node_of h p l (depth + 1) (part (at_depth h p depth) es (at_depth h p depth key)) ≡ Some (slot-child h p left depth es key slots id is e).1.0
            → AreKnown h p (IsNode others) l (depth + 1) (part (at_depth h p depth) es (at_depth h p depth key)) → Told (part (at_depth h p depth) es (at_depth h p depth key))
        by zero same there under = absurd (none-some _ (sym (no_node h p (depth + 1) (part (at_depth h p depth) es (at_depth h p depth key))) ∙ there))
        by (suc l) same there under =
            let c = slot-child h p left depth es key slots id is e in
            in_node l (depth + 1) (i + 1) (part (at_depth h p depth) es (at_depth h p depth key)) c.1.0 b bs (deeper l same) there
            (known_below h p (IsNode others) left depth es below (at_depth h p depth key) c.1.0 c.0 c.1.1).0
            (in_order-part (at_depth h p depth) es (at_depth h p depth key) order) under in_ inside
            (subst (λ (x : List ℕ). NodeIn p x (i + 1) b (λ under. OnWay p (h key) key E W (depth + 1) (i + 1) under bs) W) c.1.2 n)

  at_slot : (left depth i : ℕ) (es : List (List ℕ × Data)) (slots : List TrieSlot) (bs : List (List ℕ)) → slots_at h p left depth es ≡ Some slots → IsInOrder es → AreKnown h p (IsNode others) (suc left) depth es
      → ((b : List ℕ) → Contains bs b → Contains blocks b) → ((l : ℕ) → left ≡ suc l → Deeper l) → (s : TrieSlot) → get_or slots (at_depth h p depth key) empty ≡ s
      → (On : List ℕ → Type 0) → ((id : List ℕ) → get_or slots (at_depth h p depth key) empty ≡ child id → On id → Told es) → AtSlot key (E i bs) On s → Told es
  at_slot left depth i es slots bs is order below inside deeper empty e On on a = at_end left depth i es slots bs is inside empty e refl a
  at_slot left depth i es slots bs is order below inside deeper (bucket fs) e On on a = at_end left depth i es slots bs is inside (bucket fs) e refl a
  at_slot left depth i es slots bs is order below inside deeper (child id) e On on a = on id e a

  step : (left : ℕ) → ((l : ℕ) → left ≡ suc l → Deeper l) → Deeper left
  step left deeper depth i es slots [] is order below inside way =
      at_slot left depth i es slots [] is order below inside deeper _ refl (λ id. LevelLeft p depth i (W (R.Missing (i + 1))) W) (λ id e. none) way where
        none : LevelLeft p depth i (W (R.Missing (i + 1))) W → Told es
        none (so low w) = absurd (never (R.Missing (i + 1)) w)
        none (not_so low w) = absurd (never (R.Shape i) w)
  step left deeper depth i es slots (b ∷ bs) is order below inside way =
      at_slot left depth i es slots (b ∷ bs) is order below inside deeper _ refl (λ id. LevelLeft p depth i (NodeIn p id (i + 1) b (λ under. OnWay p (h key) key E W (depth + 1) (i + 1) under bs) W) W) next way where
        next : (id : List ℕ) → get_or slots (at_depth h p depth key) empty ≡ child id → LevelLeft p depth i (NodeIn p id (i + 1) b (λ under. OnWay p (h key) key E W (depth + 1) (i + 1) under bs) W) W → Told es
        next id e (so low n) = at_child left depth i es slots b bs is order below (inside b (contains_first b bs)) (λ c in_. inside c (contains_later b c bs in_)) deeper id e n
        next id e (not_so low w) = absurd (never (R.Shape i) w)

  pub way_holds : (left : ℕ) → Deeper left
  way_holds zero = step zero (λ l e. absurd cc)
  way_holds (suc left) = step (suc left) (λ l e. subst Deeper (same left l e) (way_holds left)) where
    same : (m n : ℕ) → suc m ≡ suc n → m ≡ n
    same m n e = omega (arith, e)
