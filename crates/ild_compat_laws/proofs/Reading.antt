-- Values of a slot read as values of a compatible one, however deep they nest; and in stores.
use Rattle.std.proofs.Common.{◌≡◌, ℕ, zero, suc, ◌≤◌, Bool, true, false, cond, not, ◌||◌, List, [], ◌∷◌, length, Some, None, refl, ap, ◌∙◌}
use Rattle.std.specs.List.{AllByRecursion}
use Rattle.std.specs.Option.{option_map_or}
use Rattle.std.proofs.lemmas.Bool.{false≢true}
use Rattle.std.proofs.lemmas.Option.{none-some}
use Rattle.ild_data.proofs.AllOf.{all_first, all_second, all_append}
use Rattle.ild_data.specs.Data as T
use Rattle.ild_data.specs.Data.{Data}
use Rattle.ild_data.specs.Limits.{longest_block}
use Rattle.ild_data.specs.Spell.{id_of}
use Rattle.ild_schema.specs.declared.number.Slot.{Slot}
use Rattle.ild_schema.specs.declared.number.TypeNo.{TypeNo}
use Rattle.ild_schema.specs.declared.def.TypeDef.TheVariants as D
use Rattle.ild_schema.specs.declared.row.Row.{Row}
use Rattle.ild_schema.specs.Apart.{AreNamedApart}
use Rattle.ild_schema.specs.Clear.{IsClear}
use Rattle.ild_schema.specs.Copies.{followed, target_in}
use Rattle.ild_schema.specs.Table.{IsTable, def_at}
use Rattle.ild_schema.specs.Value as V
use Rattle.ild_schema.specs.Value.{Value}
use Rattle.ild_schema.specs.Slots.{form_of, plainly}
use Rattle.ild_schema.proofs.Legibly.{legible}
use Rattle.ild_typed.specs.Blocks.{nodes}
use Rattle.ild_typed.specs.Composed.{Hamts}
use Rattle.ild_typed.specs.Fits.{ValueFits, FitsPast, Fits}
use Rattle.ild_typed.specs.Hamt.{whole, alone}
use Rattle.ild_typed.specs.Nested.{TreeIn}
use Rattle.ild_typed.specs.Represented.{represented}
use Rattle.ild_typed.specs.Schema.{IsSchema}
use Rattle.ild_typed.specs.Stands.{Frame, blocks_of}
use Rattle.ild_typed.proofs.TreeValues.{alone_tree, whole_tree}
use Rattle.ild_compat.specs.declared.rule.Rule.TheVariants as R
use Rattle.ild_compat.specs.Compatible.{IsClosed, Compatible}
use Rattle.ild_schema.specs.Prelude.{anything}
use Rattle.ild_compat_laws.specs.inside.Carried.{IsIn, Carried}
use Rattle.ild_compat_laws.specs.Laws.{ValuesAreRead, StandingAreRead}
use Rattle.ild_compat_laws.proofs.Carrying.{boolean_carried, integer_carried, text_carried, bytes_carried, link_carried, any_carried, unit_carried, enum_carried, union_carried, list_carried, map_carried, hamt_carried}
use Rattle.ild_compat_laws.proofs.Picking.{all_by, all_in}
use Rattle.ild_compat_laws.proofs.Structs.{struct_carried}

-- ---- Any is the first type

any_first : (rows : List Row) → IsTable rows → def_at rows 0 ≡ Some D.Any
any_first [] table = absurd (none-some D.Any (ap (λ rs. def_at rs 0) table.prelude_first))
any_first (r ∷ rows) table = ap (λ rs. def_at rs 0) table.prelude_first

first_form : (rows : List Row) → IsTable rows → form_of rows anything ≡ Some D.Any
first_form rows table = ap (def_at rows) (stays (length rows)) ∙ any_first rows table
  where
    stays : (k : ℕ) → followed rows k 0 ≡ 0
    stays zero = refl
    stays (suc k) = ap (λ o. option_map_or (λ target. followed rows k target) (target_in o) 0) (any_first rows table)

-- ---- values

module _ (rows others : List Row) (set : Slot → Slot → Bool) (closed : IsClosed rows others set) (schema : IsSchema rows) (other : IsSchema others) where
  names : AreNamedApart rows
  names = (legible rows schema.accepted).named

  other_names : AreNamedApart others
  other_names = (legible others other.accepted).named

  clear : IsClear rows
  clear = (legible rows schema.accepted).clear

  other_clear : IsClear others
  other_clear = (legible others other.accepted).clear

  -- what is represented is a tree
  abbrev Trees : Hamts → Type 0
  Trees at = (room : ℕ) (s : Slot) (v : Value) (t : Data) → Fits rows room s v → represented at rows s v ≡ Some t → TreeIn room t

  alone_trees : Trees alone
  alone_trees = alone_tree rows schema.table.texts.spelled

  null_given : (at : Hamts) (a b : Bool) (t : Data) → not a || b ≡ true → cond a (Some T.null) None ≡ Some t → (b ≡ true) × (cond b (Some T.null) None ≡ Some t)
  null_given at true true t h e = (refl, e)
  null_given at true false t h e = absurd (false≢true h)
  null_given at false b t h e = absurd (none-some t e)

  null_carried : (at : Hamts) (Of : Slot → Value → Type 0) (a b : Slot) (t : Data) → ((s : Slot) → s.nullable ≡ true → Of s V.null) → set a b ≡ true → represented at rows a V.null ≡ Some t → Carried rows others at Of a b V.null t
  null_carried at Of a b t fits s e =
      let r = null_given at a.nullable b.nullable t (closed.passes a b s R.Null) e in
      record { value = V.null; fits = fits b r.0; tree = r.1; shown = refl; nodes = λ h q n i. i }

  module _ (room : ℕ) (before after : ℕ → Slot → Value → Type 0)
      (later : (at : Hamts) → Trees at → (o : ℕ) (a b : Slot) (v : Value) (t : Data) → set a b ≡ true → before o a v → represented at rows a v ≡ Some t → Carried rows others at (after o) a b v t) where
    one_layer : (at : Hamts) → Trees at → (a b : Slot) (v : Value) (t : Data) → set a b ≡ true → ValueFits rows room before a v → TreeIn room t → represented at rows a v ≡ Some t → Carried rows others at (ValueFits others room after) a b v t
    one_layer at g a b V.null t s f tree e = null_carried at (ValueFits others room after) a b t (λ u h. h) s e
    one_layer at g a b (V.boolean x) t s f tree e = boolean_carried rows others set closed (first_form others other.table) room before after Trees alone_trees later at a b x t s f tree e
    one_layer at g a b (V.integer x) t s f tree e = integer_carried rows others set closed (first_form others other.table) room before after Trees alone_trees later at a b x t s f tree e
    one_layer at g a b (V.text x) t s f tree e = text_carried rows others set closed (first_form others other.table) room before after Trees alone_trees later at a b x t s f tree e
    one_layer at g a b (V.bytes x) t s f tree e = bytes_carried rows others set closed (first_form others other.table) room before after Trees alone_trees later at a b x t s f tree e
    one_layer at g a b (V.link x) t s f tree e = link_carried rows others set closed (first_form others other.table) room before after Trees alone_trees later at a b x t s f tree e
    one_layer at g a b (V.any x) t s f tree e = any_carried rows others set closed (first_form others other.table) room before after Trees alone_trees later at a b x t s f tree e
    one_layer at g a b V.unit t s f tree e = unit_carried rows others set closed (first_form others other.table) room before after Trees alone_trees later at a b t s f e
    one_layer at g a b (V.enum n) t s f tree e = enum_carried rows others set closed (first_form others other.table) room before after Trees alone_trees later at a b n t s f e
    one_layer at g a b (V.union n x) t s f tree e = union_carried rows others set closed (first_form others other.table) room before after Trees alone_trees later at g a b n x t s f e
    one_layer at g a b (V.list vs) t s f tree e = list_carried rows others set closed (first_form others other.table) room before after Trees alone_trees later at g a b vs t s f tree e
    one_layer at g a b (V.map ps) t s f tree e = map_carried rows others set closed (first_form others other.table) room before after Trees alone_trees later at g a b ps t s f tree e
    one_layer at g a b (V.hamt x) t s f tree e = hamt_carried rows others set closed (first_form others other.table) room before after Trees alone_trees later at a b x t s f e
    one_layer at g a b (V.struct os) t s f tree e = struct_carried rows others set closed names other_names clear other_clear room before after at (later at g) a b os t s f e

  past_carried : (room over : ℕ) (at : Hamts) → Trees at → (a b : Slot) (v : Value) (t : Data) → set a b ≡ true → FitsPast rows room over a v → represented at rows a v ≡ Some t → Carried rows others at (FitsPast others room over) a b v t
  unfolding FitsPast
  past_carried zero zero at g a b v t s f e =
      let c = one_layer zero (λ over u w. ⊥) (λ over u w. ⊥) (λ at g o a b v t s k q. absurd k) at g a b v t s f (g zero a v t f e) e in
      record { value = c.value; fits = c.fits; tree = c.tree; shown = c.shown; nodes = c.nodes }
  past_carried zero (suc over) at g a b v t s f e = absurd f
  past_carried (suc room) zero at g a b v t s f e =
      let c = one_layer (suc room) (FitsPast rows room) (FitsPast others room) (λ at g o a b v t s k q. past_carried room o at g a b v t s k q) at g a b v t s f (g (suc room) a v t f e) e in
      record { value = c.value; fits = c.fits; tree = c.tree; shown = c.shown; nodes = c.nodes }
  past_carried (suc room) (suc over) at g a b v t s f e =
      let c = past_carried room over at g a b v t s f e in
      record { value = c.value; fits = c.fits; tree = c.tree; shown = c.shown; nodes = c.nodes }

pub carried : (h : List ℕ → List ℕ) (rows others : List Row) → IsSchema rows → IsSchema others → (a b : Slot) → Compatible rows others a b → (room : ℕ) (v : Value) (t : Data)
    → Fits rows room a v → represented (whole h) rows a v ≡ Some t → Carried rows others (whole h) (Fits others room) a b v t
carried h rows others schema other a b c room v t f e = past_carried rows others c.set c.closed schema other room zero (whole h) (whole_tree h rows schema.table.texts.spelled) a b v t c.here f e

pub values_read : ValuesAreRead
values_read h rows others schema other a b c room v t f e =
    let x = carried h rows others schema other a b c room v t f e in
    record { value = x.value; fits = x.fits; tree = x.tree; shown = x.shown }

-- ---- in stores

-- what holds of the blocks of a value holds of those of the other: they are among them
blocks_kept : (P : List ℕ → Type 0) (f : Frame) (h : List ℕ → List ℕ) (rows others : List Row) (m n : TypeNo) (v w : Value) (d : Data)
    → ((x : List ℕ) → IsIn x (nodes h others (plainly n) w) → IsIn x (nodes h rows (plainly m) v)) → AllByRecursion P (blocks_of f h rows m v d) → AllByRecursion P (blocks_of f h others n w d)
blocks_kept P f h rows others m n v w d within all =
    let of_nodes : AllByRecursion P (nodes h rows (plainly m) v) = all_first P (nodes h rows (plainly m) v) f.beside all.1 in
    (all.0, all_append P (nodes h others (plainly n) w) f.beside (all_by P (nodes h others (plainly n) w) (λ x i. all_in P (nodes h rows (plainly m) v) x of_nodes (within x i))) (all_second P (nodes h rows (plainly m) v) f.beside all.1))

pub standing_read : StandingAreRead
standing_read f frame block h rows others schema other m n c id v s =
    let x = carried h rows others schema other (plainly m) (plainly n) c f.room v s.tree s.storable.fits s.storable.tree in
    let within : (y : List ℕ) → IsIn y (nodes h others (plainly n) x.value) → IsIn y (nodes h rows (plainly m) v) = x.nodes h refl in
    record {
      value = x.value;
      stands = record {
        tree = s.tree;
        storable = record { fits = x.fits; tree = x.tree; sized = blocks_kept (λ b. length b ≤ longest_block) f h rows others m n v x.value s.tree within s.storable.sized };
        root = s.root;
        all = blocks_kept (λ b. block (id_of b) ≡ Some b) f h rows others m n v x.value s.tree within s.all;
      };
      shown = x.shown;
    }
