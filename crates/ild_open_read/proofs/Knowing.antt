-- What was found sound, and what is remembered of it.
use Rattle.std.proofs.Common.{◌≡◌, ◌⊎◌, inl, inr, ℕ, ◌+◌, List, [], ◌∷◌, ◌++◌, length, take, drop, Bool, true, false, Some, refl, sym, ◌∙◌, ap, ap₂, subst, append_assoc, arith}
use Rattle.std.proofs.Math.Logic.{∥∥₁_elim, ∥∥₁_map}
use Rattle.std.proofs.Math.Seq.{take-append_seam, drop-append_seam}
use Rattle.std.proofs.Props.{props}
use Rattle.std.proofs.lemmas.List.{length-append}
use Rattle.std.specs.Prelude.{Contains, Result, Ok}
use Rattle.std.specs.Global.{Vec}
use Rattle.ild_bulk_walker.specs.declared.row.Row.{Row as Listed}
use Rattle.ild_cbor.specs.Nodes.{HasData}
use Rattle.ild_cbor.specs.declared.node.Node.{Node}
use Rattle.ild_cbor.specs.declared.piece.Piece.{Piece}
use Rattle.ild_cbor.specs.declared.piece.Piece.TheVariants as P
use Rattle.ild_data.specs.Data.{Data}
use Rattle.ild_data.specs.Limits.{IsWithin}
use Rattle.ild_data.specs.Spell.{spell}
use Rattle.ild_data.specs.Trie.{TrieSlot, child}
use Rattle.ild_data.specs.declared.hamt_shape.HamtShape.{HamtShape}
use Rattle.ild_edges.specs.Store.{Moment}
use Rattle.ild_edges.specs.Gained.{FromBlocks}
use Rattle.ild_edges.proofs.Reading.{from_later, from_more, only_of}
use Rattle.ild_schema.specs.Clear.{IsSafe}
use Rattle.ild_schema.specs.Copies.{base}
use Rattle.ild_schema.specs.Legible.{IsLegible}
use Rattle.ild_schema.specs.declared.def.MapForm.TheVariants as MF
use Rattle.ild_schema.specs.declared.def.TypeDef.{TypeDef}
use Rattle.ild_schema.specs.declared.def.TypeDef.TheVariants as D
use Rattle.ild_schema.specs.declared.number.Slot.{Slot}
use Rattle.ild_schema.specs.declared.number.TypeNo.{TypeNo}
use Rattle.ild_schema.specs.declared.row.Row.{Row}
use Rattle.ild_schema.specs.declared.val.Val.{Val}
use Rattle.ild_schema.specs.declared.val.Val.TheVariants as W
use Rattle.ild_typed.specs.Schema.{IsSchema}
use Rattle.ild_open_known.specs.Covers.{Covers, IsKnownNode}
use Rattle.ild_open_known.specs.Roots.{known_in, nodes_in}
use Rattle.ild_open_known.specs.declared.kind.ReadAs.{ReadAs}
use Rattle.ild_open_known.specs.declared.table.Known.{Known}
use Rattle.ild_open_parts.specs.Hamts.{ListsRoot, ReadsHamt, ReadsListed}
use Rattle.ild_open_parts.specs.Reads.{HasValue, OnlyReads}
use Rattle.ild_open_parts.specs.declared.fault.OpenFault.{OpenFault}
use Rattle.ild_open_parts.proofs.Hamting.{hamt_read}
use Rattle.ild_open_parts.proofs.Turning.{only_refl}
use Rattle.ild_open_nodes.specs.Nodes.{SlotOwned}
use Rattle.ild_open_read.proofs.Rooming.{has_more, slot_more}
use Rattle.ild_open_read.specs.inside.Passing.{ReadsRoot}
use Rattle.ild_open_read.specs.inside.Sound.{AreSound, HasHeld, IsPassed, IsSound, IsSoundNode, Remembers}

-- ---- the bytes at which a node stands

-- a piece of a block, by the places of its ends
cut : (block before piece after : List ℕ) (from to : ℕ) → block ≡ before ++ (piece ++ after) → length before ≡ from → from + length piece ≡ to → block ≡ take from block ++ (piece ++ drop to block)
cut block before piece after from to is place end =
    let front : take from block ≡ before = ap₂ (λ (n : ℕ) (xs : List ℕ). take n xs) (sym place) is ∙ take-append_seam before (piece ++ after) in
    let many = length-append before piece in
    let both : to ≡ length (before ++ piece) = omega (arith, many, place, end) in
    let back : drop to block ≡ after = ap₂ (λ (n : ℕ) (xs : List ℕ). drop n xs) both (is ∙ sym (append_assoc before piece after)) ∙ drop-append_seam (before ++ piece) after in
    is ∙ ap₂ (λ (xs ys : List ℕ). xs ++ (piece ++ ys)) (sym front) (sym back)

-- data with the bytes of a node stand there
pub stands_again : (n : Node) (b : List ℕ) → ((t : Data) → HasData n t → b ≡ spell t) → (t : Data) → spell t ≡ b → IsWithin t → HasData n t
stands_again n b tells t same within = record {
  holds = record {
    before = take n.from n.block.now;
    after = drop n.to n.block.now;
    is = ∥∥₁_elim n.stands (hlevel props) (λ some.
        let x = some.spells in
        subst (λ (p : List ℕ). n.block.now ≡ take n.from n.block.now ++ (p ++ drop n.to n.block.now)) (sym (same ∙ tells some.of x))
        (cut n.block.now x.holds.before (spell some.of) x.holds.after n.from n.to x.holds.is x.holds.place x.end));
    place = ∥∥₁_elim n.stands (hlevel props) (λ some.
        let x = some.spells in
        ap length (ap₂ (λ (k : ℕ) (xs : List ℕ). take k xs) (sym x.holds.place) x.holds.is ∙ take-append_seam x.holds.before (spell some.of ++ x.holds.after)) ∙ x.holds.place);
  };
  end = ∥∥₁_elim n.stands (hlevel props) (λ some. ap (λ (p : List ℕ). n.from + length p) (same ∙ tells some.of some.spells) ∙ some.spells.end);
  within = within;
}

-- ---- what is known

nowhere : {A : Type 0} (x : A) → Contains [] x → ⊥
nowhere x among = omega (arith, among.1)

-- nothing is known
pub none_known : (h : List ℕ → List ℕ) (rows : List Row) (n : Moment) (known : Known) → known_in known ≡ [] → nodes_in known ≡ [] → AreSound h rows n known
none_known h rows n known none nodes = record {
  each = λ r has. absurd (nowhere r (subst (λ (rs : List (ReadAs × List ℕ)). Contains rs r) none has));
  nodes = λ r has. absurd (nowhere r (subst (λ (rs : List (ReadAs × List ℕ × List ℕ)). Contains rs r) nodes has));
}

-- gets alone leave it
sound_still : (h : List ℕ → List ℕ) (rows : List Row) (m n : Moment) (r : ReadAs × List ℕ) → OnlyReads m n → IsSound h rows m r → IsSound h rows n r
sound_still h rows m n r only x = record {
  holds = λ s t key_at place whole within same is sum le front. from_later m n (λ held. HasHeld held h rows whole s t) only (x.holds s t key_at place whole within same is sum le front);
}

node_still : (h : List ℕ → List ℕ) (rows : List Row) (m n : Moment) (r : ReadAs × List ℕ × List ℕ) → OnlyReads m n → IsSoundNode h rows m r → IsSoundNode h rows n r
node_still h rows m n r only x = record { holds = λ way i is. from_later m n (λ held. SlotOwned h r.0.shape rows r.0.room r.0.key r.0.value held way i (child r.1)) only (x.holds way i is) }

pub known_still : (h : List ℕ → List ℕ) (rows : List Row) (m n : Moment) (known : Known) → OnlyReads m n → AreSound h rows m known → AreSound h rows n known
known_still h rows m n known only x = record { each = λ r has. sound_still h rows m n r only (x.each r has); nodes = λ r has. node_still h rows m n r only (x.nodes r has) }

-- reading the rows of a root is gets alone
rows_only : (h : List ℕ → List ℕ) (p : HamtShape) (at : List ℕ) (root : Node) (m n : Moment) (r : Result (Vec Listed) OpenFault) → List Row → ListsRoot h p at (P.Node root) m r n → OnlyReads m n
rows_only h p at root m n r rows lists = only_of m n (∥∥₁_map root.stands (λ some. (lists rows some.of some.spells).only))

-- so what was found sound still is
pub still_sound : (h : List ℕ → List ℕ) (p : HamtShape) (at : List ℕ) (rows : List Row) (root : Node) (m n : Moment) (r : Result (Vec Listed) OpenFault) (known : Known) → ListsRoot h p at (P.Node root) m r n
    → AreSound h rows m known → AreSound h rows n known
still_sound h p at rows root m n r known lists sound = known_still h rows m n known (rows_only h p at root m n r rows lists) sound

-- the rows of a root, and what they spell
pub hamt_reads : (h : List ℕ → List ℕ) (p : HamtShape) (at : List ℕ) (rows : List Row) (schema : IsSchema rows) (legible : IsLegible rows) (room : ℕ) (keep : Bool) (key : TypeNo) (value : Slot) (piece : Piece) (listed : Vec Listed) (m k n : Moment) (r : Result Val OpenFault)
    → ListsRoot h p at piece m (Ok listed) k → ReadsListed h rows room keep key value listed.items k r n → ReadsHamt h p at rows room keep key value piece m r n
hamt_reads h p at rows schema legible room keep key value piece listed m k n r lists read = λ s t key_at place whole stands is sum le front.
    let safe : IsSafe rows value = legible.clear.parts (base rows s.ty.0) (D.Map key key_at value place (MF.Hamt p)) is in
    hamt_read h p at rows schema whole room keep s t key key_at value place front.some is sum le listed m k n (lists rows t stands) r (read safe)

on_off : {b : Bool} → b ≡ false → b ≡ true → ⊥
on_off off on = absurd cc

-- ---- a root that is known

-- the form of a HAMT, as that of one that is known
form_covered : (known asked : ReadAs) → Covers known asked → (key_at place : ℕ) → D.Map asked.key key_at asked.value place (MF.Hamt asked.shape) ≡ D.Map known.key key_at known.value place (MF.Hamt known.shape)
form_covered known asked x key_at place =
    ap (λ (k : TypeNo). D.Map k key_at asked.value place (MF.Hamt asked.shape)) (sym x.key)
    ∙ ap₂ (λ (u : Slot) (p : HamtShape). D.Map known.key key_at u place (MF.Hamt p)) (sym x.value) (sym x.shape)

module _ (h : List ℕ → List ℕ) (rows : List Row) (kind : ReadAs) (root : Node) where
  passed_node : (at : List ℕ) (keep : Bool) (known : Known) (m : Moment) → AreSound h rows m known → IsPassed keep known kind root
      → ReadsHamt h kind.shape at rows kind.room keep kind.key kind.value (P.Node root) m (Ok W.Null) m
  passed_node at keep known m sound x = λ s t key_at place whole stands is sum le front. record {
    answer = from_more m (λ held. HasHeld held h rows whole s t) (λ held. HasValue h rows whole (s, t) keep held W.Null)
        (λ held y. record { value = y.value; is = y.is; kept = λ k. absurd (on_off x.off k) })
        ((sound.each (x.has.kind, x.bytes) x.has.has).holds s t key_at place whole stands.within (sym (x.tells t stands))
        (is ∙ ap (λ (d : TypeDef). Some d) (form_covered x.has.kind kind x.has.covers key_at place)) (omega (arith, sum, x.has.covers.room)) le front.some);
    only = only_refl m;
    gets = λ held v told has. omega arith;
  }

  abbrev Whole : List ℕ → Bool → Moment → Result Val OpenFault → Moment → Piece → Type 0
  Whole at keep m r n piece = ReadsHamt h kind.shape at rows kind.room keep kind.key kind.value piece m r n

  -- it is passed over
  pub passed : (at : List ℕ) (keep : Bool) (known : Known) (m : Moment) (piece : Piece) → piece ≡ P.Node root → AreSound h rows m known → IsPassed keep known kind root → Whole at keep m (Ok W.Null) m piece
  passed at keep known m piece is sound x = subst (Whole at keep m (Ok W.Null) m) (sym is) (passed_node at keep known m sound x)

  -- one that was read is sound
  found : (at : List ℕ) (keep : Bool) (m n : Moment) (val : Val) (b : List ℕ) → ((t : Data) → HasData root t → b ≡ spell t) → ReadsRoot h kind.shape at rows kind.room keep kind.key kind.value (P.Node root) m (Ok val) n
      → IsSound h rows n (kind, b)
  found at keep m n val b tells read = record {
    holds = λ s t key_at place whole within same is least le some.
        let y = read s t key_at place (kind.room + 5) (stands_again root b tells t same within) is refl (omega (arith, least, le)) some in
        from_more n (λ held. HasValue h rows (kind.room + 5) (s, t) keep held val) (λ held. HasHeld held h rows whole s t)
        (λ held a. has_more h rows (kind.room + 5) whole least s t held (record { value = a.value; is = a.is })) y.answer;
  }

  -- and may be remembered
  pub remembered : (at : List ℕ) (keep : Bool) (m n : Moment) (val : Val) (old new : Known) (piece : Piece) → piece ≡ P.Node root → AreSound h rows n old → Remembers old new kind root → ReadsRoot h kind.shape at rows kind.room keep kind.key kind.value piece m (Ok val) n
      → AreSound h rows n new
  remembered at keep m n val old new piece is sound x read = record {
    each = λ r has. by r (x.added r has);
    nodes = λ r has. sound.nodes r (subst (λ (rs : List (ReadAs × List ℕ × List ℕ)). Contains rs r) x.nodes has);
  } where
    by : (r : ReadAs × List ℕ) → Contains (known_in old) r ⊎ (r ≡ (kind, x.bytes)) → IsSound h rows n r
    by r (inl was) = sound.each r was
    by r (inr same) = subst (IsSound h rows n) (sym same) (found at keep m n val x.bytes x.tells (subst (λ q. ReadsRoot h kind.shape at rows kind.room keep kind.key kind.value q m (Ok val) n) is read))

-- ---- nodes

-- what is held of a node in a HAMT that was read so is held in one that is asked for
covered : (h : List ℕ → List ℕ) (rows : List Row) (known asked : ReadAs) → Covers known asked → (held : List (List ℕ)) (way : List ℕ) (i : ℕ) (s : TrieSlot) → SlotOwned h known.shape rows known.room known.key known.value held way i s
    → SlotOwned h asked.shape rows asked.room asked.key asked.value held way i s
covered h rows known asked x held way i s o =
    subst (λ p. SlotOwned h p rows asked.room asked.key asked.value held way i s) x.shape
    (subst (λ k. SlotOwned h known.shape rows asked.room k asked.value held way i s) x.key
    (subst (λ u. SlotOwned h known.shape rows asked.room known.key u held way i s) x.value
    (slot_more h known.shape rows known.room asked.room x.room known.key known.value held way i s o)))

module _ (h : List ℕ → List ℕ) (rows : List Row) (kind : ReadAs) (id way : List ℕ) where
  -- it is passed over
  pub node_passed : (known : Known) (m : Moment) → AreSound h rows m known → IsKnownNode (nodes_in known) kind id way → (above : List ℕ) (i : ℕ) → way ≡ above ++ i ∷ []
      → FromBlocks m (λ held. SlotOwned h kind.shape rows kind.room kind.key kind.value held above i (child id))
  node_passed known m sound x above i is =
      from_more m (λ held. SlotOwned h x.kind.shape rows x.kind.room x.kind.key x.kind.value held above i (child id)) (λ held. SlotOwned h kind.shape rows kind.room kind.key kind.value held above i (child id))
      (λ held o. covered h rows x.kind kind x.covers held above i (child id) o) ((sound.nodes (x.kind, id, way) x.has).holds above i is)

  -- one that was gone over may be remembered
  pub node_remembered : (n : Moment) (old new : Known) → AreSound h rows n old → ((r : ReadAs × List ℕ × List ℕ) → Contains (nodes_in new) r → Contains (nodes_in old) r ⊎ (r ≡ (kind, id, way))) → known_in new ≡ known_in old
      → ((above : List ℕ) (i : ℕ) → way ≡ above ++ i ∷ [] → FromBlocks n (λ held. SlotOwned h kind.shape rows kind.room kind.key kind.value held above i (child id))) → AreSound h rows n new
  node_remembered n old new sound added roots own = record {
    each = λ r has. sound.each r (subst (λ (rs : List (ReadAs × List ℕ)). Contains rs r) roots has);
    nodes = λ r has. by r (added r has);
  } where
    by : (r : ReadAs × List ℕ × List ℕ) → Contains (nodes_in old) r ⊎ (r ≡ (kind, id, way)) → IsSoundNode h rows n r
    by r (inl was) = sound.nodes r was
    by r (inr same) = subst (IsSoundNode h rows n) (sym same) (record { holds = own })
