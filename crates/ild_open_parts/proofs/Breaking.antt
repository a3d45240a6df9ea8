-- What is wrong in the data of a part is wrong in the whole, and it was wrong from an earlier moment on.
use Rattle.std.proofs.Common.{◌≡◌, ◌⊎◌, inl, inr, ℕ, zero, suc, ◌+◌, ◌-◌, ◌≤◌, List, Option, Some, Contains, subst, arith}
use Rattle.ild_cbor.specs.declared.why.BlockWhy.{BlockWhy}
use Rattle.ild_cbor.specs.declared.why.BlockWhy.TheVariants as B
use Rattle.ild_data.specs.Data.{Data}
use Rattle.ild_data.specs.Trie.{TrieSlot}
use Rattle.ild_data.specs.declared.hamt_shape.HamtShape.{HamtShape}
use Rattle.ild_edges.specs.Count.{Rose}
use Rattle.ild_edges.specs.Store.{Moment}
use Rattle.ild_schema.specs.declared.def.TypeDef.{TypeDef}
use Rattle.ild_schema.specs.declared.number.Slot.{Slot}
use Rattle.ild_schema.specs.declared.row.Row.{Row}
use Rattle.ild_schema.specs.Slots.{form_of}
use Rattle.ild_typed.specs.Pieces.{needs}
use Rattle.ild_bulk_walker.specs.OnTree.{IsWrong}
use Rattle.ild_bulk_walker.specs.Standing.{IsWrongOnTree}
use Rattle.ild_open_held.specs.Splits.{Part}
use Rattle.ild_open_parts.specs.Broken.{HasBrokenBlock, IsWrongAt, IsWrongBelow, IsWrongEntry, IsWrongIn}
use Rattle.ild_open_parts.specs.Reads.{BrokenPart, BrokenParts, OnlyReads}
use Rattle.ild_open_parts.specs.Sites.{HasSite, IsPartOf, Site}

pub rose_later : (a b c : ℕ) → a ≤ b → Rose b c → Rose a c
rose_later a b c le rose = omega arith

-- ---- from an earlier moment on

module _ (h : List ℕ → List ℕ) (rows : List Row) (told : Option (List (List ℕ))) (earlier before now : ℕ) (le : earlier ≤ before) where
  node_earlier : (p : HamtShape) (root : List TrieSlot) (up id : List ℕ) (why : BlockWhy) → IsWrong h p told root before now up id why → IsWrong h p told root earlier now up id why
  node_earlier p root up id B.Missing w = (w.0, rose_later earlier before now le w.1)
  node_earlier p root up id (B.Cbor fault) w = w
  node_earlier p root up id (B.Shape cause) w = w

  tree_earlier : (p : HamtShape) (root : List TrieSlot) (at id : List ℕ) (why : BlockWhy) → IsWrongOnTree h p told root at before now id why → IsWrongOnTree h p told root at earlier now id why
  tree_earlier p root at id why w = record { up = w.up; on = w.on; wrong = node_earlier p root w.up id why w.wrong }

  module _ (id : List ℕ) (why : BlockWhy) where
    site_earlier : (below more : Site → List ℕ → Data → Type 0) → ((z : Site) (b : List ℕ) (d : Data) → below z b d → more z b d) → (z : Site) (at : List ℕ)
        → IsWrongOnTree h z.shape told z.slots at before now id why ⊎ IsWrongEntry rows told z id why ⊎ IsWrongBelow told z (below z)
        → IsWrongOnTree h z.shape told z.slots at earlier now id why ⊎ IsWrongEntry rows told z id why ⊎ IsWrongBelow told z (more z)
    site_earlier below more step z at (inl w) = inl (tree_earlier z.shape z.slots at id why w)
    site_earlier below more step z at (inr (inl w)) = inr (inl w)
    site_earlier below more step z at (inr (inr w)) = inr (inr (record { block = w.block; key = w.key; value = w.value; entry = w.entry; wrong = step z w.block w.value w.wrong }))

    at_earlier : (below more : Site → List ℕ → Data → Type 0) → ((z : Site) (b : List ℕ) (d : Data) → below z b d → more z b d) → (at : List ℕ) (room : ℕ) (s : Slot) (t : Data)
        → IsWrongAt h rows told before now below at room s t id why → IsWrongAt h rows told earlier now more at room s t id why
    at_earlier below more step at room s t w = record { steps = w.steps; site = w.site; has = w.has; here = w.here; wrong = site_earlier below more step w.site at w.wrong }

    wrong_earlier : (deep : ℕ) (at : List ℕ) (room : ℕ) (s : Slot) (t : Data) → IsWrongIn deep h rows told before now at room s t id why → IsWrongIn deep h rows told earlier now at room s t id why
    wrong_earlier zero at room s t w = absurd w
    wrong_earlier (suc deep) at room s t w =
        at_earlier (λ z b d. IsWrongIn deep h rows told before now b z.room z.value d id why) (λ z b d. IsWrongIn deep h rows told earlier now b z.room z.value d id why)
        (λ z b d v. wrong_earlier deep b z.room z.value d v) at room s t w

pub broken_earlier : (h : List ℕ → List ℕ) (at : List ℕ) (rows : List Row) (room : ℕ) (p : Part) (m n o : Moment) (id : List ℕ) (why : BlockWhy) → OnlyReads m n → BrokenPart h at rows room p n o id why
    → BrokenPart h at rows room p m o id why
broken_earlier h at rows room p m n o id why only x =
    subst (λ told. HasBrokenBlock h rows told m.lacks o.lacks at room p.0 p.1 id why) only.blocks
    (record { deep = x.deep; wrong = wrong_earlier h rows n.blocks m.lacks n.lacks o.lacks only.later.lacks id why x.deep at room p.0 p.1 x.wrong })

-- ---- one step further

-- the parts of a whole, with the room that is left for them
pub record AreParts (rows : List Row) (room : ℕ) (s : Slot) (t : Data) (less : ℕ) (ps : List Part) : Type 0 where
  pub type : TypeDef
  pub form : form_of rows s ≡ Some type
  pub left : room ≡ less + needs type t
  pub each : (p : Part) → Contains ps p → IsPartOf type t p.0 p.1

module _ (h : List ℕ → List ℕ) (rows : List Row) (told : Option (List (List ℕ))) (before now : ℕ) (at : List ℕ) (room less : ℕ) (s : Slot) (t : Data) (type : TypeDef) (p : Part) (id : List ℕ) (why : BlockWhy)
    (form : form_of rows s ≡ Some type) (part : IsPartOf type t p.0 p.1) (left : room ≡ less + needs type t) where
  at_whole : (below : Site → List ℕ → Data → Type 0) → IsWrongAt h rows told before now below at less p.0 p.1 id why → IsWrongAt h rows told before now below at room s t id why
  at_whole below w =
      let same : less ≡ room - needs type t = omega (arith, left) in
      record {
        steps = suc w.steps;
        site = w.site;
        has = record { type = type; form = form; slot = p.0; tree = p.1; part = part; then = subst (λ r. HasSite rows w.steps r p.0 p.1 w.site) same w.has };
        here = w.here;
        wrong = w.wrong;
      }

  wrong_whole : (deep : ℕ) → IsWrongIn deep h rows told before now at less p.0 p.1 id why → IsWrongIn deep h rows told before now at room s t id why
  wrong_whole zero w = absurd w
  wrong_whole (suc deep) w = at_whole (λ z b d. IsWrongIn deep h rows told before now b z.room z.value d id why) w

  whole_wrong : HasBrokenBlock h rows told before now at less p.0 p.1 id why → HasBrokenBlock h rows told before now at room s t id why
  whole_wrong x = record { deep = x.deep; wrong = wrong_whole x.deep x.wrong }

pub whole_broken : (h : List ℕ → List ℕ) (at : List ℕ) (rows : List Row) (room less : ℕ) (s : Slot) (t : Data) (ps : List Part) (m n : Moment) (id : List ℕ) (why : BlockWhy) → AreParts rows room s t less ps
    → BrokenParts h at rows less ps m n id why → BrokenPart h at rows room (s, t) m n id why
whole_broken h at rows room less s t ps m n id why are x = whole_wrong h rows m.blocks m.lacks n.lacks at room less s t are.type x.0 id why are.form (are.each x.0 x.1) are.left x.2
