-- A key's way stands on the tree beneath its root, and what is wrong on it is wrong on the tree.
use Rattle.std.proofs.Common.{◌≡◌, ◌⊎◌, inl, inr, ⊎_elim, ℕ, zero, suc, ◌+◌, ◌-◌, ◌<◌, Bool, true, false, true≢false, List, [], ◌∷◌, length, get_or, slice_get, Option, Some, None, Err, refl, sym, ap, ◌∙◌, subst, arith}
use Rattle.std.proofs.lemmas.List.{append-nil}
use Rattle.ild_cbor.proofs.Blocks.{one_spelling_within}
use Rattle.ild_cbor.specs.Block.{IsBlockOf}
use Rattle.ild_cbor.specs.declared.node.Node.{Node}
use Rattle.ild_cbor.specs.declared.why.BlockWhy.{BlockWhy}
use Rattle.ild_cbor.specs.declared.why.BlockWhy.TheVariants as B
use Rattle.ild_cbor.specs.declared.why.Why.{Why}
use Rattle.ild_cbor.specs.declared.why.Why.TheVariants.{Trie}
use Rattle.ild_data.specs.Data.{Data}
use Rattle.ild_data.specs.Spell.{id_of, spell}
use Rattle.ild_data.specs.Trie.{TrieSlot, empty, bucket, child, is_child, node_data}
use Rattle.ild_data.specs.TrieShape.{index}
use Rattle.ild_data.specs.declared.hamt_shape.HamtShape.{HamtShape}
use Rattle.ild_edges.specs.Gained.{AreHeld}
use Rattle.ild_edges.specs.Store.{Moment, block_at}
use Rattle.ild_edges.specs.Told.{IfTold}
use Rattle.ild_bulk_walker.specs.Gives.{IsNodeOf}
use Rattle.ild_bulk_walker.specs.OnTree.{HasNode, IsOnTree, IsWrong}
use Rattle.ild_bulk_walker.specs.Standing.{IsWrongOnTree}
use Rattle.ild_hamt.specs.Descending.{Descends, IsBadChild, LinksBeyond}
use Rattle.ild_hamt.specs.Fetching.{BlockCause}
use Rattle.ild_hamt_climb.specs.Way.{Leads, slot_for}
use Rattle.ild_node_slots.specs.declared.fault.HamtFault.TheVariants as F
use Rattle.ild_data.specs.declared.id.BlockId.{BlockId}
use Rattle.ild_open_parts.specs.Broken.{IsWrongEntry}
use Rattle.ild_open_parts.specs.Sites.{HasEntry, Site}
use Rattle.ild_hamt.specs.Found.{IsItemIn}
use Rattle.ild_path_found.specs.Sites.{end_block}
use Rattle.ild_schema.specs.declared.number.TypeNo.{TypeNo}
use Rattle.ild_schema.specs.declared.row.Row.{Row}
use Rattle.ild_view_walk.specs.Checks.{IsRefusal}

-- ---- a slot that is read

abbrev is_used : TrieSlot → Bool
is_used empty = false
is_used (bucket es) = true
is_used (child id) = true

slot_got : (slots : List TrieSlot) (i : ℕ) (s : TrieSlot) → get_or slots i empty ≡ s → is_used s ≡ true → slice_get slots i ≡ Some s
slot_got [] zero s e used = absurd (true≢false (sym used ∙ sym (ap is_used e)))
slot_got [] (suc i) s e used = absurd (true≢false (sym used ∙ sym (ap is_used e)))
slot_got (x ∷ xs) zero s e used = ap Some e
slot_got (x ∷ xs) (suc i) s e used = slot_got xs i s e used

linked : (slots : List TrieSlot) (i : ℕ) → is_child (get_or slots i empty) ≡ true → (id : List ℕ) × (slice_get slots i ≡ Some (child id))
linked slots i is = let c = link (get_or slots i empty) is in (c.0, slot_got slots i (child c.0) c.1 refl) where
  link : (s : TrieSlot) → is_child s ≡ true → (id : List ℕ) × (s ≡ child id)
  link empty e = absurd (true≢false (sym e))
  link (bucket es) e = absurd (true≢false (sym e))
  link (child id) e = (id, refl)

-- ---- the blocks of a way

first_told : (o : Option (List (List ℕ))) (b : List ℕ) (bs : List (List ℕ)) → IfTold o (AreHeld (b ∷ bs)) → IfTold o (λ held. block_at held (id_of b) ≡ Some b)
first_told None b bs all = tt
first_told (Some held) b bs all = all.0

rest_told : (o : Option (List (List ℕ))) (b : List ℕ) (bs : List (List ℕ)) → IfTold o (AreHeld (b ∷ bs)) → IfTold o (AreHeld bs)
rest_told None b bs all = tt
rest_told (Some held) b bs all = all.1

end_is : (b : List ℕ) (bs : List (List ℕ)) (j : ℕ) → suc j ≡ length bs → end_block b bs ≡ get_or bs j []
end_is b [] j e = absurd (omega (arith, e))
end_is b (c ∷ []) zero e = refl
end_is b (c ∷ []) (suc j) e = absurd (omega (arith, e))
end_is b (c ∷ d ∷ bs) zero e = absurd (omega (arith, e))
end_is b (c ∷ d ∷ bs) (suc j) e = end_is c (d ∷ bs) j (omega (arith, e))

end_got : (b : List ℕ) (bs : List (List ℕ)) (x : List ℕ) → 0 < length bs → end_block b bs ≡ get_or bs (length bs - 1) x
end_got b [] x lt = absurd (omega (arith, lt))
end_got b (c ∷ []) x lt = refl
end_got b (c ∷ d ∷ bs) x lt =
    let e : suc (length (d ∷ bs) - 1) ≡ length (c ∷ d ∷ bs) - 1 = omega arith in
    subst (λ (i : ℕ). end_block d bs ≡ get_or (c ∷ d ∷ bs) i x) e (end_got c (d ∷ bs) x (omega arith))

pub end_none : (b : List ℕ) (xs bs : List (List ℕ)) → xs ≡ bs → length xs ≡ 0 → b ≡ end_block b bs
end_none b xs bs same is = by bs (ap length (sym same) ∙ is) where
  by : (cs : List (List ℕ)) → length cs ≡ 0 → b ≡ end_block b cs
  by [] e = refl
  by (c ∷ cs) e = absurd (omega (arith, e))

pub end_last : (b x : List ℕ) (xs bs : List (List ℕ)) → xs ≡ bs → x ≡ get_or xs (length xs - 1) x → 0 < length xs → x ≡ end_block b bs
end_last b x xs bs same is lt = is ∙ sym (end_got b xs x lt) ∙ ap (end_block b) same

module _ (p : HamtShape) (told : Option (List (List ℕ))) (root : List TrieSlot) (at : List ℕ) where
  -- the node of these slots in which a way of so many blocks ends stands on the tree, in the block of this id
  pub record EndsOn (many : ℕ) (id : List ℕ) (last : List TrieSlot) : Type 0 where
    pub up : List ℕ
    pub on : IsOnTree p told root at up id
    pub node : HasNode p told root up id last
    pub levels : length up ≡ many

  walk : (hash : List ℕ) (depth : ℕ) (up : List ℕ) (b : List ℕ) (slots : List TrieSlot) (bs : List (List ℕ)) (last : List TrieSlot)
      → IsOnTree p told root at up (id_of b) → HasNode p told root up (id_of b) slots → Leads p hash depth slots bs last → IfTold told (AreHeld bs) → EndsOn (length up + length bs) (id_of (end_block b bs)) last
  walk hash depth up b slots [] last on node leads held =
      record { up = up; on = on; node = subst (λ (ss : List TrieSlot). HasNode p told root up (id_of b) ss) leads node; levels = omega arith }
  walk hash depth up b slots (c ∷ bs) last on node leads held =
      let i = index p hash depth in
      let more = walk hash (depth + 1) (i ∷ up) c leads.0 bs last (id_of b, slots, on, node, slot_got slots i (child (id_of c)) leads.1 refl)
      (record { block = c; at = record { named = refl; held = first_told told c bs held }; node = leads.2 }) leads.3 (rest_told told c bs held) in
      record { up = more.up; on = more.on; node = more.node; levels = more.levels ∙ omega arith }

  module _ (block : List ℕ) (named : at ≡ id_of block) where
    pub ends_on : (hash : List ℕ) (bs : List (List ℕ)) (last : List TrieSlot) → Leads p hash 0 root bs last → IfTold told (AreHeld bs) → EndsOn (length bs) (id_of (end_block block bs)) last
    ends_on hash bs last leads held =
        let w = walk hash 0 [] block root bs last (sym named) refl leads held in
        record { up = w.up; on = w.on; node = w.node; levels = w.levels ∙ omega arith }

-- ---- what is wrong on it

one_node : (p : HamtShape) (b : List ℕ) (d : Data) (slots : List TrieSlot) → IsBlockOf b d → IsNodeOf p b slots → d ≡ node_data slots
one_node p b d slots is node =
    (one_spelling_within d (node_data slots) [] [] is.within node.is.within (append-nil (spell d) ∙ sym is.spelled ∙ node.is.spelled ∙ sym (append-nil (spell (node_data slots))))).0

module _ (h : List ℕ → List ℕ) (p : HamtShape) (m n : Moment) (root : List TrieSlot) (at : List ℕ) where
  cause_wrong : (up id : List ℕ) (why : BlockWhy) → BlockCause p m id why n → IsWrong h p m.blocks root m.lacks n.lacks up id why
  cause_wrong up id B.Missing cause = (cause.0, cause.1)
  cause_wrong up id (B.Cbor fault) cause = (cause.block, record { named = cause.at.named; held = cause.at.held }, cause.wrong)
  cause_wrong up id (B.Shape why) cause = (
    cause.wrong.0,
    inl (record {
      block = cause.block;
      at = record { named = cause.at.named; held = cause.at.held };
      none = λ slots node. cause.wrong.1.other slots node.form (one_node p cause.block cause.wrong.1.data_in slots cause.wrong.1.is node);
    }),
  )

  module _ (hash : List ℕ) (block : List ℕ) (bs : List (List ℕ)) (last : List TrieSlot) (on : EndsOn p m.blocks root at (length bs) (id_of (end_block block bs)) last) (id : List ℕ) (why : BlockWhy) where
    bad_child : IsBadChild p hash m bs last id why n → IsWrongOnTree h p m.blocks root at m.lacks n.lacks id why
    bad_child bad = record {
      up = index p hash (length bs) ∷ on.up;
      on = (id_of (end_block block bs), last, on.on, on.node, slot_got last (index p hash (length bs)) (child id) bad.link refl);
      wrong = cause_wrong (index p hash (length bs) ∷ on.up) id why bad.cause;
    }

    beyond : why ≡ B.Shape Trie → LinksBeyond p hash bs last id → IsWrongOnTree h p m.blocks root at m.lacks n.lacks id why
    beyond is x =
        let same : id_of (end_block block bs) ≡ id = ap id_of (end_is block bs x.at x.is_last) ∙ x.named in
        let link = linked last (index p hash (length bs)) x.link in
        let deep = x.none_left in
        record {
          up = on.up;
          on = subst (IsOnTree p m.blocks root at on.up) same on.on;
          wrong = subst (IsWrong h p m.blocks root m.lacks n.lacks on.up id) (sym is) (
            refl,
            inr (record {
              slots = last;
              node = subst (λ i. HasNode p m.blocks root on.up i last) same on.node;
              wrong = inr (inl (record { index = index p hash (length bs); id = link.0; stands = link.1; last = omega (arith, deep, on.levels) }));
            }),
          );
        }

  -- the node that a descent refuses
  pub descent_wrong : (k block : List ℕ) (id : BlockId) (why : BlockWhy) → at ≡ id_of block → Descends h p k root m (Err (F.Block id why)) n → IsWrongOnTree h p m.blocks root at m.lacks n.lacks id.0 why
  descent_wrong k block id why named d =
      let on = ends_on p m.blocks root at block named (h k) d.bs d.last d.reads.leads d.reads.held in
      ⊎_elim (λ bad. bad_child (h k) block d.bs d.last on id.0 why bad) (λ deep. beyond (h k) block d.bs d.last on id.0 why deep.0 deep.1) d.answer

-- ---- the entry at its end

module _ (z : Site) (told : Option (List (List ℕ))) (hash k block : List ℕ) (named : z.block ≡ id_of block) (bs : List (List ℕ)) (last : List TrieSlot) (leads : Leads z.shape hash 0 z.slots bs last) (held : IfTold told (AreHeld bs)) where
  pub entry_there : (item : Node) (x : IsItemIn (slot_for z.shape hash (length bs) last) k item) → HasEntry told z (id_of (end_block block bs)) k x.value
  entry_there item x =
      let on = ends_on z.shape told z.slots z.block block named hash bs last leads held in
      record {
        up = on.up;
        on = on.on;
        slots = last;
        node = on.node;
        index = index z.shape hash (length bs);
        entries = x.entries;
        stands = slot_got last (index z.shape hash (length bs)) (bucket x.entries) x.is refl;
        place = x.place;
        is = x.entry;
      }

  pub entry_wrong : (rows : List Row) (item : Node) (x : IsItemIn (slot_for z.shape hash (length bs) last) k item) (id : List ℕ) (why : BlockWhy) (cause : Why) (ty : TypeNo)
      → id ≡ id_of (end_block block bs) → why ≡ B.Shape cause → IsRefusal rows z.room z.value x.value ty cause → IsWrongEntry rows told z id why
  entry_wrong rows item x id why cause ty same is refused = record {
    key = k;
    value = x.value;
    entry = subst (λ i. HasEntry told z i k x.value) (sym same) (entry_there item x);
    cause = cause;
    told_is = is;
    wrong = inr (ty, refused);
  }
