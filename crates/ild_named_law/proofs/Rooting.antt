-- The struct as a bare root of the longer table, and the value under a root that names its schema.
use Rattle.std.proofs.Common.{◌≡◌, ℕ, suc, ◌<◌, ◌≤◌, List, [], ◌∷◌, Option, Some, None, length, append-nil, refl, ap, sym, ◌∙◌, subst, arith}
use Rattle.std.specs.Prelude.{IsSomeAnd, IsUtf8, option_map, ◌↔◌}
use Rattle.std.specs.List.{AllByRecursion}
use Rattle.ild_data.specs.Among.{AreUnderIds}
use Rattle.ild_data.specs.Bytes.{AreBytes}
use Rattle.ild_data.specs.Cid.{IsCid}
use Rattle.ild_data.specs.Data as T
use Rattle.ild_data.specs.Data.{Data}
use Rattle.ild_data.specs.Limits.{longest_block}
use Rattle.ild_data.specs.Spell.{cid_of, id_of, spell}
use Rattle.ild_data.proofs.AllOf.{all_first, all_second, all_push}
use Rattle.ild_data.proofs.Options.{map_some}
use Rattle.ild_schema.specs.declared.number.TypeNo.{TypeNo}
use Rattle.ild_schema.specs.declared.number.Slot.{Slot}
use Rattle.ild_schema.specs.declared.def.TypeDef.TheVariants as D
use Rattle.ild_schema.specs.declared.row.Row.{Row}
use Rattle.ild_schema.specs.Prelude.{number}
use Rattle.ild_schema.specs.Slots.{form_of, plainly}
use Rattle.ild_schema.specs.Table.{IsTable}
use Rattle.ild_schema.specs.Value as V
use Rattle.ild_schema.specs.Value.{Value, Optionals}
use Rattle.ild_typed.specs.Blocks.{nodes, nodes_of_fields}
use Rattle.ild_typed.specs.Fits.{FitsPast, Fits, FormFits}
use Rattle.ild_typed.specs.Hamt.{whole}
use Rattle.ild_typed.specs.Layer as L
use Rattle.ild_typed.specs.Represented.{layered, represented, represented_fields}
use Rattle.ild_typed.specs.Slots.{fields_of}
use Rattle.ild_typed.specs.Stands.{Stands, bare, blocks_of}
use Rattle.ild_typed.specs.Strings.{cons_both}
use Rattle.ild_typed.proofs.Utf8Texts.{id_fits}
use Rattle.ild_named.specs.Named.{AreNaming, named, named_data, schema_block}
use Rattle.ild_named_type.specs.Root.{named_rows, root_def, root_type}
use Rattle.ild_named_type.proofs.Last.{meant_last}
use Rattle.ild_named_law.specs.Law.{RootsAreStructs, rooted}
use Rattle.ild_named_law.proofs.Alike.{AreAlike, alike_back}
use Rattle.ild_named_law.proofs.Fitting.{fits_over}
use Rattle.ild_named_law.proofs.Known.{alike_longer, eight_there, link_meant, text_meant}
use Rattle.ild_named_law.proofs.Standing.{nodes_same, tree_same}

-- ---- what fits

text_fits : (rows : List Row) (room : ℕ) (s : Slot) (t : List ℕ) → form_of rows s ≡ Some D.Text → IsUtf8 t → Fits rows (suc room) s (V.text t)
unfolding FitsPast
text_fits rows room s t e utf8 = subst (λ o. IsSomeAnd o (FormFits rows (suc room) (FitsPast rows room) (V.text t))) (sym e) (omega arith, utf8)

link_fits : (rows : List Row) (room : ℕ) (s : Slot) (target : TypeNo) (t : List ℕ) → form_of rows s ≡ Some (D.Link target) → IsCid t × AreBytes t → Fits rows (suc room) s (V.link t)
unfolding FitsPast
link_fits rows room s target t e cid = subst (λ o. IsSomeAnd o (FormFits rows (suc room) (FitsPast rows room) (V.link t))) (sym e) (omega arith, cid)

-- a struct of three values, and these
struct_fits : (rows : List Row) (room : ℕ) (s : Slot) (n : TypeNo) (a v b : Value) → form_of rows s ≡ Some (root_def n) → Fits rows room (plainly (number 7)) a → Fits rows room (plainly n) v → Fits rows room (plainly (number 4)) b
    → Fits rows (suc room) s (V.struct (V.present a (V.present v (V.present b V.no_optionals))))
unfolding FitsPast
struct_fits rows room s n a v b e first second third =
    subst (λ o. IsSomeAnd o (FormFits rows (suc room) (FitsPast rows room) (V.struct (V.present a (V.present v (V.present b V.no_optionals)))))) (sym e) (omega arith, (first, (second, (third, tt))))

value_fits : (rows : List Row) (room : ℕ) (s : Slot) (n : TypeNo) (a v b : Value) → form_of rows s ≡ Some (root_def n) → Fits rows (suc room) s (V.struct (V.present a (V.present v (V.present b V.no_optionals)))) → Fits rows room (plainly n) v
unfolding FitsPast
value_fits rows room s n a v b e h =
    (subst (λ o. IsSomeAnd o (FormFits rows (suc room) (FitsPast rows room) (V.struct (V.present a (V.present v (V.present b V.no_optionals)))))) e h).1.1.0

-- ---- the struct of a value

module _ (h : List ℕ → List ℕ) (rows : List Row) (n : TypeNo) (table : IsTable rows) (low : n.0 < length rows) (name source : List ℕ) (v : Value) where
  abbrev longer : List Row
  longer = named_rows rows n

  abbrev root : Slot
  root = plainly (root_type rows)

  abbrev text : Slot
  text = plainly (number 7)

  abbrev link : Slot
  link = plainly (number 4)

  abbrev cid : List ℕ
  cid = cid_of (id_of (schema_block source))

  abbrev over : Data → Data
  over d = named_data name (id_of (schema_block source)) d

  abbrev whole_value : Value
  whole_value = rooted name source v

  -- the data of the struct, by those of its fields
  abbrev of_parts : Option Data → Option Data → Option Data → Option Data
  of_parts a b c = layered (whole h) (Some (root_def n)) (option_map L.struct (cons_both (option_map Some a) (cons_both (option_map Some b) (cons_both (option_map Some c) (Some [])))))

  parts_told : (o : Option Data) → of_parts (Some (T.text name)) o (Some (T.link cid)) ≡ option_map over o
  parts_told None = refl
  parts_told (Some d) = refl

  alike : AreAlike (length rows) longer rows
  alike = alike_longer rows table n

  text_form : form_of longer text ≡ Some D.Text
  text_form = alike.same 7 (omega (arith, eight_there rows table)) ∙ text_meant rows table

  link_form : form_of longer link ≡ Some (D.Link (number 0))
  link_form = alike.same 4 (omega (arith, eight_there rows table)) ∙ link_meant rows table

  root_form : form_of longer root ≡ Some (root_def n)
  root_form = meant_last rows n

  abbrev fields : Optionals
  fields = V.present (V.text name) (V.present v (V.present (V.link cid) V.no_optionals))

  pub root_tree : represented (whole h) longer root whole_value ≡ option_map over (represented (whole h) rows (plainly n) v)
  root_tree =
      ap (λ o. layered (whole h) o (option_map L.struct (represented_fields (whole h) longer (fields_of o) fields))) root_form
      ∙ ap (λ o. of_parts o (represented (whole h) longer (plainly n) v) (represented (whole h) longer link (V.link cid)))
      (ap (λ o. layered (whole h) o (Some (L.text name))) text_form)
      ∙ ap (λ o. of_parts (Some (T.text name)) (represented (whole h) longer (plainly n) v) o) (ap (λ o. layered (whole h) o (Some (L.link cid))) link_form)
      ∙ parts_told (represented (whole h) longer (plainly n) v)
      ∙ ap (option_map over) (tree_same (length rows) longer rows alike (whole h) (plainly n) v low)

  pub root_nodes : nodes h longer root whole_value ≡ nodes h rows (plainly n) v
  root_nodes =
      ap (λ o. nodes_of_fields h longer (fields_of o) fields) root_form
      ∙ append-nil (nodes h longer (plainly n) v) ∙ nodes_same (length rows) longer rows alike h (plainly n) v low

  -- ---- what holds of each block

  module _ (P : List ℕ → Type 0) (d : Data) where
    blocks_bare : AllByRecursion P (blocks_of (named name source) h rows n v d) → AllByRecursion P (blocks_of bare h longer (root_type rows) whole_value (over d))
    blocks_bare all = (all.0, subst (AllByRecursion P) (sym (append-nil (nodes h longer root whole_value) ∙ root_nodes)) (all_first P (nodes h rows (plainly n) v) (schema_block source ∷ []) all.1))

    block_beside : AllByRecursion P (blocks_of (named name source) h rows n v d) → P (schema_block source)
    block_beside all = (all_second P (nodes h rows (plainly n) v) (schema_block source ∷ []) all.1).0

    blocks_named : AllByRecursion P (blocks_of bare h longer (root_type rows) whole_value (over d)) → P (schema_block source) → AllByRecursion P (blocks_of (named name source) h rows n v d)
    blocks_named all one =
        (all.0, all_push P (nodes h rows (plainly n) v) (schema_block source) (subst (AllByRecursion P) (append-nil (nodes h longer root whole_value) ∙ root_nodes) all.1) one)

  -- ---- the room of the struct is that of the value, and one level

  pub root_fits : (room : ℕ) → IsUtf8 name → Fits rows (suc room) (plainly n) v → Fits longer (suc (suc room)) root whole_value
  root_fits room utf8 fits =
      struct_fits longer (suc room) root n (V.text name) v (V.link cid) root_form
      (text_fits longer room text name text_form utf8)
      (fits_over (length rows) longer rows alike (suc room) (plainly n) v low fits)
      (link_fits longer room link (number 0) cid link_form (id_fits (schema_block source)))

  pub under_root : (room : ℕ) → Fits longer (suc room) root whole_value → Fits rows room (plainly n) v
  under_root room fits =
      fits_over (length rows) rows longer (alike_back (length rows) longer rows alike) room (plainly n) v low
      (value_fits longer room root n (V.text name) v (V.link cid) root_form fits)

  module _ (block : List ℕ → Option (List ℕ)) (id : List ℕ) (naming : AreNaming name source) where
    to_bare : Stands (named name source) block h rows n id v → Stands bare block h longer (root_type rows) id whole_value
    to_bare stands = record {
      tree = over stands.tree;
      storable = record {
        fits = root_fits 94 naming.name_text stands.storable.fits;
        tree = root_tree ∙ ap (option_map over) stands.storable.tree;
        sized = blocks_bare (λ b. length b ≤ longest_block) stands.tree stands.storable.sized;
      };
      root = stands.root;
      all = blocks_bare (λ b. block (id_of b) ≡ Some b) stands.tree stands.all;
    }

    pub to_named : Stands bare block h longer (root_type rows) id whole_value → AreUnderIds block (schema_block source ∷ []) → Stands (named name source) block h rows n id v
    to_named stands held = by (map_some over (represented (whole h) rows (plainly n) v) stands.tree (sym root_tree ∙ stands.storable.tree))
      where
        by : (d : Data) × (represented (whole h) rows (plainly n) v ≡ Some d) × (over d ≡ stands.tree) → Stands (named name source) block h rows n id v
        by (d, told, same) = record {
          tree = d;
          storable = record {
            fits = under_root 95 stands.storable.fits;
            tree = told;
            sized = blocks_named (λ b. length b ≤ longest_block) d
                (subst (λ t. AllByRecursion (λ b. length b ≤ longest_block) (blocks_of bare h longer (root_type rows) whole_value t)) (sym same) stands.storable.sized) naming.short;
          };
          root = stands.root ∙ ap (λ t. id_of (spell t)) (sym same);
          all = blocks_named (λ b. block (id_of b) ≡ Some b) d
              (subst (λ t. AllByRecursion (λ b. block (id_of b) ≡ Some b) (blocks_of bare h longer (root_type rows) whole_value t)) (sym same) stands.all) held.0;
        }

    pub both : Stands (named name source) block h rows n id v ↔ (Stands bare block h longer (root_type rows) id whole_value × AreUnderIds block (schema_block source ∷ []))
    both = ((λ stands. (to_bare stands, (block_beside (λ b. block (id_of b) ≡ Some b) stands.tree stands.all, tt))), (λ pair. to_named pair.0 pair.1))

pub roots_structs : RootsAreStructs
roots_structs block h rows n table low name source naming id v = both h rows n table low name source v block id naming
