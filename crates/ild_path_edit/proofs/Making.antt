-- What is made of the holders on the path of an edit, from the last one up.
use Rattle.std.proofs.Common.{◌≡◌, ◌<◌, ◌≤◌, ◌+◌, ◌-◌, ℕ, zero, suc, List, [], ◌∷◌, ◌++◌, length, length-append, take, drop, Bool, true, Some, sym, ◌∙◌, ap, subst, arith}
use Rattle.std.specs.List.{AllByRecursion}
use Rattle.std.specs.Prelude.{Err, IsUtf8, Ok, Result, slice_get}
use Rattle.ild_cbor.specs.Block.{IsBlockOf}
use Rattle.ild_cbor.specs.Nodes.{IsRoot, HasData}
use Rattle.ild_cbor.specs.declared.node.Node.{Node}
use Rattle.ild_path_holder.proofs.Walking.{behind_first}
use Rattle.ild_data.specs.Data.{Data}
use Rattle.ild_data.specs.Spell.{spell}
use Rattle.ild_data.specs.Tree.{IsTree}
use Rattle.ild_path_block.specs.Changes.{Allows}
use Rattle.ild_path_block.specs.Edits.{BringsPart, EditsPart, EditMakes}
use Rattle.ild_path_block.specs.Items.{becoming}
use Rattle.ild_path_block.specs.Spliced.{SplicedAs, IsReplaced}
use Rattle.ild_path_block.specs.declared.answer.Replaced.{Replaced}
use Rattle.ild_path_block.specs.declared.edit.PartEdit.{PartEdit}
use Rattle.ild_path_edit.proofs.Numbering.{at_next, known_at, one, segment_there, two}
use Rattle.ild_path_edit.proofs.Stepping.{Next, at_last, part_made, part_typed, to_next}
use Rattle.ild_path_edit.specs.Made.{MakesBlock}
use Rattle.ild_path_edit.specs.Holders.{AreHolders, IsMade, PartIs}
use Rattle.ild_path_edit.specs.inside.Items.{ChangesHolder, SetsPart}
use Rattle.ild_path_holder.proofs.Written.{has_part}
use Rattle.ild_path_holder.specs.Along.{is_holder}
use Rattle.ild_splice.specs.Made.{MakesBytes as MakesOf}
use Rattle.ild_splice.specs.declared.error.SpliceErr.{SpliceErr}
use Rattle.ild_splice.specs.declared.error.SpliceErr.TheVariants.{Memory, Size}
use Rattle.ild_schema.specs.Value.{Value}
use Rattle.ild_schema.specs.declared.number.Slot.{Slot}
use Rattle.ild_schema.specs.declared.row.Row.{Row}
use Rattle.ild_typed.specs.At.{InSlot, at, seen}
use Rattle.ild_typed.specs.OfType.{TestsKeys}
use Rattle.ild_splice_changes.proofs.Spans.{changes_are_spliced}
use Rattle.ild_splice_changes.specs.TreeChange.{TreeStep, changed, part_at, replace}
use Rattle.ild_typed.proofs.Wholes.{one_within}
use Rattle.ild_typed.specs.Schema.{IsSchema}
use Rattle.ild_view.specs.View.{slot_of, table_of}
use Rattle.ild_view.specs.declared.view.View.{View}

pub texts_from : (path : List (List ℕ)) (k : ℕ) → AllByRecursion IsUtf8 path → AllByRecursion IsUtf8 (drop k path)
texts_from path zero all = all
texts_from [] (suc k) all = tt
texts_from (x ∷ xs) (suc k) all = texts_from xs k all.1

-- the last holder
pub record Last (rows : List Row) (edit : PartEdit) (w : Value) (p : InSlot) (path : List (List ℕ)) (k : ℕ) (d : Data) : Type 0 where
  pub holder : InSlot
  pub leads : at rows p (take k path) ≡ Some holder
  pub segment : List ℕ
  pub there : slice_get path k ≡ Some segment
  pub holds : is_holder (seen rows holder) ≡ true
  pub allows : Allows rows edit (seen rows holder) segment w
  pub becomes : becoming rows edit w holder segment ≡ Some d

-- one before it, whose part at the next segment becomes what has the data x
pub record Above (rows : List Row) (is_key : ℕ → List ℕ → Bool) (edit : PartEdit) (w : Value) (p : InSlot) (path : List (List ℕ)) (k : ℕ) (d : Data) : Type 0 where
  pub holder : InSlot
  pub leads : at rows p (take k path) ≡ Some holder
  pub segment : List ℕ
  pub there : slice_get path k ≡ Some segment
  pub holds : is_holder (seen rows holder) ≡ true
  pub slot : Slot
  pub value : Value
  pub tree : Data
  pub is : PartIs rows holder segment slot value tree d
  pub shorter : length (spell tree) ≤ length (spell d)
  pub next : IsMade rows is_key edit w p path (suc k) tree

module _ (rows : List Row) (is_key : ℕ → List ℕ → Bool) (schema : IsSchema rows) (keys : TestsKeys rows is_key) (edit : PartEdit) (w : Value) (p : InSlot) (path : List (List ℕ)) (texts : AllByRecursion IsUtf8 path) where
  abbrev Made : ℕ → Data → Type 0
  Made n d = IsMade rows is_key edit w p path n d

  pub last_made : (k : ℕ) (d : Data) → suc k ≡ length path → Made k d → Last rows edit w p path k d
  last_made k d end m =
      let x = one path k end in
      let y = at_last rows is_key schema keys edit w m.holder m.typed m.old m.was x.0 m.value d (subst (λ ys. BringsPart rows m.holder ys edit w) x.1 m.brings) (subst (λ ys. EditMakes rows is_key edit w m.holder ys m.value) x.1 m.makes) m.shown in
      record { holder = m.holder; leads = m.leads; segment = x.0; there = segment_there path k x.0 [] x.1; holds = y.0; allows = y.1; becomes = y.2 }

  pub made_above : (k : ℕ) (d : Data) → suc k < length path → Made k d → Above rows is_key edit w p path k d
  made_above k d less m =
      let x = two path k less in
      let n : Next rows is_key schema keys edit w m.holder m.typed m.old m.was x.first x.second x.rest d =
      to_next rows is_key schema keys edit w m.holder m.typed m.old m.was x.first x.second x.rest m.value d (subst (λ ys. AllByRecursion IsUtf8 ys) x.is (texts_from path k texts)) (subst (λ ys. BringsPart rows m.holder ys edit w) x.is m.brings)
      (subst (λ ys. EditMakes rows is_key edit w m.holder ys m.value) x.is m.makes) m.shown in
      let rest : drop (suc k) path ≡ x.second ∷ x.rest = behind_first path k x.first (x.second ∷ x.rest) x.is in
      record {
        holder = m.holder;
        leads = m.leads;
        segment = x.first;
        there = segment_there path k x.first (x.second ∷ x.rest) x.is;
        holds = has_part (seen rows m.holder) x.first n.next n.there;
        slot = n.next.0;
        value = n.value;
        tree = n.tree;
        is = n.becomes;
        shorter = n.shorter;
        next = record {
          holder = n.next;
          before = less;
          leads = at_next rows path k p m.holder n.next x.first (x.second ∷ x.rest) m.leads x.is n.there;
          typed = part_typed rows is_key schema keys m.holder n.next x.first m.typed n.there;
          old = (part_made rows is_key schema keys m.holder n.next x.first m.old m.typed n.there m.was).0;
          was = (part_made rows is_key schema keys m.holder n.next x.first m.old m.typed n.there m.was).1;
          brings = subst (λ ys. BringsPart rows n.next ys edit w) (sym rest) n.brings;
          value = n.value;
          makes = subst (λ ys. EditMakes rows is_key edit w n.next ys n.value) (sym rest) n.makes;
          shown = n.becomes.shown;
        };
      }

  -- one between is no longer
  pub beneath : (m n : ℕ) (d : Data) → m + n < length path → Made m d → (x : Data) × Made (m + n) x × (length (spell x) ≤ length (spell d))
  beneath m zero d less made = (d, subst (λ (k : ℕ). Made k d) (omega arith) made, omega arith)
  beneath m (suc n) d less made =
      let a = made_above m d (omega (arith, less)) made in
      let more = beneath (suc m) n a.tree (omega (arith, less)) a.next in
      (more.0, subst (λ (k : ℕ). Made k more.0) (omega arith) more.1, omega (arith, more.2, a.shorter))

  pub down_to : (m k : ℕ) (d : Data) → m ≤ k → k < length path → Made m d → (x : Data) × Made k x × (length (spell x) ≤ length (spell d))
  down_to m k d le less made =
      let sum : m + (k - m) ≡ k = omega (arith, le) in
      let x = beneath m (k - m) d (omega (arith, less, sum)) made in
      (x.0, subst (λ (j : ℕ). Made j x.0) sum x.1, x.2)

  -- ---- what is answered of it

  module _ (all : List View) (views : AreHolders rows p path all) where
    pub last_done : (k : ℕ) (d : Data) (r : Result (List ℕ) SpliceErr) → suc k ≡ length path → Made k d → ChangesHolder all path k edit r → MakesBlock (spell d) r
    last_done k d r end m clause = let l = last_made k d end m in clause rows l.holder l.segment w d (views k l.holder m.before l.leads) l.there l.holds l.allows l.becomes

    pub above_done : (k : ℕ) (d : Data) (r : Result (List ℕ) SpliceErr) (below : List ℕ) → suc k < length path → Made k d → ((x : Data) → Made (suc k) x → MakesBlock (spell x) (Ok below)) → SetsPart all path k below r → MakesBlock (spell d) r
    above_done k d r below less m known clause =
        let a = made_above k d less m in
        let it = known a.tree a.next in
        clause rows a.holder a.slot a.segment a.value a.tree d (views k a.holder m.before a.leads) a.there a.holds a.is it.0

-- a holder that is replaced is made so
pub replaced_made : (v : View) (is_key : ℕ → List ℕ → Bool) (path : List (List ℕ)) (edit : PartEdit) (f w c : Value) (t u : Data) → IsSchema (table_of v) → EditsPart is_key v path edit f w c t u → (r : Replaced)
    → (held : IsReplaced (table_of v) is_key edit w (slot_of v, f) path t u r) → IsMade (table_of v) is_key edit w (slot_of v, f) path r.holder held.new
replaced_made v is_key path edit f w c t u schema e r held =
    let known = known_at (table_of v) is_key schema e.keys edit w path r.holder (slot_of v, f) held.holder held.before held.leads (record { typed = (e.root.room, e.root.front.fits); old = t; was = e.root.front.tree; brings = e.brings }) in
    record { holder = held.holder; before = held.before; leads = held.leads; typed = known.typed; old = known.old; was = known.was; brings = known.brings; value = held.value; makes = held.makes; shown = held.new_is }

-- ---- what is answered

-- what fails below is too long above
pub failed : (xs ys : List ℕ) (e : SpliceErr) → length xs ≤ length ys → MakesBlock xs (Err e) → MakesBlock ys (Err e)
failed xs ys Size le h = omega (arith, le, h)
failed xs ys Memory le h = tt

pub answer_failed : (rows : List Row) (is_key : ℕ → List ℕ → Bool) (edit : PartEdit) (w : Value) (p : InSlot) (path : List (List ℕ)) (t u : Data) (e : SpliceErr) → SplicedAs rows is_key edit w p path t u (Err e) → MakesBlock (spell u) (Err e)
answer_failed rows is_key edit w p path t u Size h = h
answer_failed rows is_key edit w p path t u Memory h = tt

pub made_block : (bytes : List ℕ) (r : Result (List ℕ) SpliceErr) → MakesOf bytes r → MakesBlock bytes r
made_block bytes (Ok b) h = (h.0, let same = ap length h.0 in omega (arith, same, h.1))
made_block bytes (Err Size) h = h
made_block bytes (Err Memory) h = tt

-- what replaces a part is no longer than the whole
pub replaced_short : (place : List TreeStep) (t old new u : Data) → part_at place t ≡ Some old → u ≡ changed place (replace new) t → length (spell new) ≤ length (spell u)
replaced_short place t old new u there is =
    let x = changes_are_spliced place (replace new) t old there in
    let front = take (x.span).start (spell t) in
    let behind = drop ((x.span).start + (x.span).size) (spell t) in
    let long : length (spell u) ≡ length (front ++ (spell new ++ behind)) = ap (λ d. length (spell d)) is ∙ ap length x.after in
    omega (arith, long, length-append front (spell new ++ behind), length-append (spell new) behind)

-- the one item of a block
pub item_stands : (b : List ℕ) (n : Node) (d x : Data) → IsBlockOf b d → IsRoot n b d → b ≡ spell x → IsTree x → HasData n x
item_stands b n d x block root e tree = subst (HasData n) (one_within d x block.within tree (sym block.spelled ∙ e)) root.stands
