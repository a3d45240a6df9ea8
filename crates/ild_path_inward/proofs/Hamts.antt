-- Values that are HAMTs, and what they count.
use Rattle.std.proofs.Common.{◌≡◌, ℕ, ◌≤◌, List, [], ◌∷◌, true, false, Option, Some, None, refl, ap, arith}
use Rattle.std.specs.Option.{option_map_or}
use Rattle.ild_open_held_roots.proofs.Entering.{no_root}
use Rattle.ild_data.specs.Data.{Data}
use Rattle.ild_data.specs.declared.hamt_shape.HamtShape.{HamtShape}
use Rattle.ild_open_held_parts.specs.Leads.{CountsHamts}
use Rattle.ild_path_edits.specs.Along.{room_below}
use Rattle.ild_path_held.specs.HeldEdits.{room_at}
use Rattle.ild_path_inward.specs.Levels.{counts}
use Rattle.ild_path_nodes.specs.NodeLaws.{IsHamt}
use Rattle.ild_schema.specs.declared.def.MapForm.TheVariants as MF
use Rattle.ild_schema.specs.declared.def.TypeDef.{TypeDef}
use Rattle.ild_schema.specs.declared.def.TypeDef.TheVariants as T
use Rattle.ild_schema.specs.declared.number.Slot.{Slot}
use Rattle.ild_schema.specs.declared.row.Row.{Row}
use Rattle.ild_schema.specs.Slots.{form_of}
use Rattle.ild_schema.specs.Value as V
use Rattle.ild_schema.specs.Value.{Value, Pairs}
use Rattle.ild_script_meaning.specs.Costs.{met_in}
use Rattle.ild_typed.specs.At.{InSlot, seen}
use Rattle.ild_typed.specs.Hamt.{whole}
use Rattle.ild_typed.specs.Layer as L
use Rattle.ild_typed.specs.Represented.{represented}
use Rattle.ild_typed.specs.Segment.{part}
use Rattle.ild_typed.specs.Slots.{element_of}
use Rattle.ild_typed_fronts.specs.Front.{front, fronts_of_pairs, is_hamt, is_root, root_or_map}
use Rattle.ild_view.specs.Roots.{root_in}

abbrev pub HamtOf : List Row → Slot → Slot → Type 0
HamtOf = IsHamt

record HasForm (o : Option TypeDef) : Type 0 where
  elem : Slot
  form : (key : _) × (key_at : ℕ) × (place : ℕ) × (p : HamtShape) × (o ≡ Some (T.Map key key_at elem place (MF.Hamt p)))

form_there : (o : Option TypeDef) → is_hamt o ≡ true → HasForm o
form_there (Some (T.Map key key_at elem place (MF.Hamt p))) e = record { elem = elem; form = (key, key_at, place, p, refl) }
form_there (Some (T.Map key key_at elem place MF.Map)) e = absurd cc
form_there (Some (T.Map key key_at elem place MF.ListPairs)) e = absurd cc
form_there (Some (T.Map key key_at elem place (MF.StringPairs i x))) e = absurd cc
form_there o e = absurd cc

pub record IsHamtMap (rows : List Row) (s : Slot) (v : Value) : Type 0 where
  pub pairs : Pairs
  pub is : v ≡ V.map pairs
  pub elem : Slot
  pub type : HamtOf rows s elem

pub hamt_of : (h : List ℕ → List ℕ) (rows : List Row) (s : Slot) (v : Value) (t : Data) → represented (whole h) rows s v ≡ Some t → is_root rows (s, v) ≡ true → IsHamtMap rows s v
hamt_of h rows s (V.map ps) t e root = let f = form_there (form_of rows s) root in record { pairs = ps; is = refl; elem = f.elem; type = f.form }
hamt_of h rows s (V.hamt d) t e root = absurd (no_root h (form_of rows s) d t e)
hamt_of h rows s v t e root = absurd cc

-- the front of what is none has no root
pub plain_root : (h : List ℕ → List ℕ) (rows : List Row) (s : Slot) (v : Value) → is_root rows (s, v) ≡ false → root_in (front h rows s v) ≡ None
plain_root h rows s V.null e = refl
plain_root h rows s (V.boolean b) e = refl
plain_root h rows s (V.integer n) e = refl
plain_root h rows s (V.text t) e = refl
plain_root h rows s (V.bytes t) e = refl
plain_root h rows s (V.link t) e = refl
plain_root h rows s (V.list vs) e = refl
plain_root h rows s (V.map ps) e = ap (λ b. root_in (root_or_map b (represented (whole h) rows s (V.map ps)) (option_map_or (λ u. fronts_of_pairs h rows u ps) (element_of (form_of rows s)) ps))) e
plain_root h rows s (V.struct os) e = refl
plain_root h rows s (V.union n v) e = refl
plain_root h rows s (V.enum n) e = refl
plain_root h rows s V.unit e = refl
plain_root h rows s (V.any d) e = refl
plain_root h rows s (V.hamt d) e = absurd cc

-- ---- what is counted

map_counts : (h : List ℕ → List ℕ) (rows : List Row) (o : Option TypeDef) (ps : Pairs) (k : List ℕ) → is_hamt o ≡ false → met_in h rows o (V.map ps) k ≡ 0
map_counts h rows (Some (T.Map key key_at value place (MF.Hamt p))) ps k e = absurd cc
map_counts h rows (Some (T.Map key key_at value place MF.Map)) ps k e = refl
map_counts h rows (Some (T.Map key key_at value place MF.ListPairs)) ps k e = refl
map_counts h rows (Some (T.Map key key_at value place (MF.StringPairs i d))) ps k e = refl
map_counts h rows o ps k e = refl

pub counts_hamts : (h : List ℕ → List ℕ) (rows : List Row) → CountsHamts rows (counts h rows)
counts_hamts h rows p k e = by p.0 p.1 e where
  by : (s : _) (v : Value) → is_root rows (s, v) ≡ false → met_in h rows (form_of rows s) v k ≡ 0
  by s (V.map ps) plain = map_counts h rows (form_of rows s) ps k plain
  by s v plain = refl

-- ---- rooms

pub room_less : (rows : List Row) (path : List (List ℕ)) (room : ℕ) (p : InSlot) → room_at rows room p path ≤ room
room_less rows [] room p = omega arith
room_less rows (s ∷ ss) room p = by (part (seen rows p) s) (λ q. room_less rows ss (room_below rows room p s) q) where
  by : (o : Option InSlot) → ((q : InSlot) → room_at rows (room_below rows room p s) q ss ≤ room_below rows room p s) → option_map_or (λ q. room_at rows (room_below rows room p s) q ss) o (room_below rows room p s) ≤ room
  by None rest = omega arith
  by (Some q) rest = let le = rest q in omega (arith, le)
