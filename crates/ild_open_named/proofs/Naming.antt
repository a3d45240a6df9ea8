-- The root that is described under an id is the one that its block spells, and the value beneath it the one that its data represent.
use Rattle.std.proofs.Common.{◌≡◌, ℕ, ◌+◌, ◌≤◌, List, [], ◌∷◌, ◌++◌, length, Some, sym, ◌∙◌, ap, subst, arith}
use Rattle.std.specs.List.{AllByRecursion}
use Rattle.std.proofs.lemmas.List.{length-append}
use Rattle.std.proofs.lemmas.Option.{same_Some}
use Rattle.sha2.proofs.Facts256.{length-sha256}
use Rattle.ild_cbor.specs.Block.{IsBlockOf}
use Rattle.ild_cbor.specs.declared.why.Why.{Why}
use Rattle.ild_data.proofs.AllOf.{all_split}
use Rattle.ild_data.specs.Data.{Data, text}
use Rattle.ild_data.specs.Limits.{IsWithin, longest_block}
use Rattle.ild_data.specs.Spell.{id_of, spell}
use Rattle.ild_edges.specs.Store.{block_at}
use Rattle.ild_named.specs.Named.{AreNaming, named, named_data, schema_block}
use Rattle.ild_named.proofs.Framing.{named_is_frame, schema_of_named, value_of_named}
use Rattle.ild_open_held.specs.Held.{IsHeld, IsHeldBlock}
use Rattle.ild_schema.specs.Slots.{plainly}
use Rattle.ild_schema.specs.Value.{Value}
use Rattle.ild_schema.specs.declared.number.TypeNo.{TypeNo}
use Rattle.ild_schema.specs.declared.row.Row.{Row}
use Rattle.ild_typed.proofs.TreeValues.{whole_tree}
use Rattle.ild_typed.proofs.Wholes.{one_within}
use Rattle.ild_typed.specs.Blocks.{nodes}
use Rattle.ild_typed.specs.Schema.{IsSchema}
use Rattle.ild_typed.specs.Stands.{blocks_of}
use Rattle.ild_view_named.specs.NamedBlock.{IsNamedBlock}
use Rattle.ild_view_named.specs.NamedDocs.{IsMisnamedBlock}
use Rattle.ild_open_named.specs.Broken.{IsNoText}
use Rattle.ild_open_named.specs.Described.{HoldsData, IsDescribed}
use Rattle.ild_open_named.specs.Opened.{StandsInNamed, StandsNamed}

-- the block of data that are held is theirs
pub held_block : (held : List (List ℕ)) (id : List ℕ) (t : Data) → HoldsData held id t → (b : List ℕ) → block_at held id ≡ Some b → IsBlockOf b t
held_block held id t x b there = record { within = x.within; spelled = same_Some b (spell t) (sym there ∙ x.there) }

same_tree : (b : List ℕ) (t u : Data) → IsBlockOf b t → IsBlockOf b u → t ≡ u
same_tree b t u x y = one_within t u x.within y.within.tree (sym x.spelled ∙ y.spelled)

-- ---- what is described

module _ (held : List (List ℕ)) (id name source : List ℕ) (is : IsDescribed held id name source) where
  abbrev Link : List ℕ
  Link = id_of (schema_block source)

  root_data : (b other key : List ℕ) (t : Data) → block_at held id ≡ Some b → IsNamedBlock b other key t → named_data other key t ≡ named_data name Link is.tree
  root_data b other key t there x = same_tree b (named_data other key t) (named_data name Link is.tree) x.block (held_block held id (named_data name Link is.tree) is.root b there)

  pub link_same : (b other key : List ℕ) (t : Data) → block_at held id ≡ Some b → IsNamedBlock b other key t → key ≡ Link
  link_same b other key t there x = schema_of_named other key name Link t is.tree (root_data b other key t there x)

  pub tree_same : (b other key : List ℕ) (t : Data) → block_at held id ≡ Some b → IsNamedBlock b other key t → t ≡ is.tree
  tree_same b other key t there x = value_of_named other key name Link t is.tree (root_data b other key t there x)

  pub not_misnamed : (b : List ℕ) (why : Why) → block_at held id ≡ Some b → IsMisnamedBlock b why → ⊥
  not_misnamed b why there x =
      x.wrong.unnamed name Link is.tree (length-sha256 (schema_block source)) (same_tree b x.tree (named_data name Link is.tree) x.block (held_block held id (named_data name Link is.tree) is.root b there))

  pub not_no_text : (b : List ℕ) (why : Why) → block_at held Link ≡ Some b → IsNoText b why → ⊥
  not_no_text b why there x = x.other source (same_tree b x.tree (text source) x.block (held_block held Link (text source) is.schema b there))

-- ---- a value that stands

module _ (rows : List Row) (schema : IsSchema rows) (h : List ℕ → List ℕ) (ty : TypeNo) (id : List ℕ) (held : List (List ℕ)) (name source : List ℕ) (v : Value)
    (st : StandsNamed h rows ty id held name source v) where
  abbrev Own : List (List ℕ)
  Own = nodes h rows (plainly ty) v

  abbrev Short : List ℕ → Type 0
  Short b = length b ≤ longest_block

  abbrev There : List ℕ → Type 0
  There b = block_at held (id_of b) ≡ Some b

  short : AllByRecursion Short Own × AllByRecursion Short (schema_block source ∷ [])
  short = all_split Short Own (schema_block source ∷ []) st.stands.storable.sized.1

  all_there : AllByRecursion There Own × AllByRecursion There (schema_block source ∷ [])
  all_there = all_split There Own (schema_block source ∷ []) st.stands.all.1

  root_within : IsWithin (named_data name (id_of (schema_block source)) st.stands.tree)
  root_within =
      let x = (named_is_frame name source st.naming).fits st.stands.tree (whole_tree h rows schema.table.texts.spelled 95 (plainly ty) v st.stands.tree st.stands.storable.fits st.stands.storable.tree) in
      record { tree = x.tree; nested = x.nested; sized = st.stands.storable.sized.0 }

  pub standing_described : IsDescribed held id name source
  standing_described = record {
    tree = st.stands.tree;
    root = record {
      within = root_within;
      there = subst (λ k. block_at held k ≡ Some (spell (named_data name (id_of (schema_block source)) st.stands.tree))) (sym st.stands.root) st.stands.all.0;
    };
    schema = record { within = record { tree = st.naming.source_text; nested = omega arith; sized = st.naming.short }; there = all_there.1.0 };
  }

  both_held : (xs : List (List ℕ)) → AllByRecursion Short xs → AllByRecursion There xs → AllByRecursion (IsHeldBlock (block_at held)) xs
  both_held [] a b = tt
  both_held (x ∷ xs) a b = (record { short = a.0; there = b.0 }, both_held xs a.1 b.1)

  own_held : IsHeld (block_at held) h rows 95 (plainly ty) st.stands.tree v
  own_held = record { fits = st.stands.storable.fits; tree = st.stands.storable.tree; held = both_held Own short.0 all_there.0 }

  -- it is held by the data beneath the root's block
  pub value_held : (b other key : List ℕ) (t : Data) → block_at held id ≡ Some b → IsNamedBlock b other key t → IsHeld (block_at held) h rows 95 (plainly ty) t v
  unfolding standing_described
  value_held b other key t there x =
      subst (λ u. IsHeld (block_at held) h rows 95 (plainly ty) u v) (sym (tree_same held id name source standing_described b other key t there x)) own_held

  pub so_many : length (blocks_of (named name source) h rows ty v st.stands.tree) ≡ 2 + length Own
  so_many = let e = length-append Own (schema_block source ∷ []) in omega (arith, e)

-- ---- a value that is held stands

abbrev all_parts : (held : List (List ℕ)) (xs : List (List ℕ)) → Type 0
all_parts held xs = AllByRecursion (IsHeldBlock (block_at held)) xs

short_too : (held xs : List (List ℕ)) (z : List ℕ) → length z ≤ longest_block → all_parts held xs → AllByRecursion (λ b. length b ≤ longest_block) (xs ++ z ∷ [])
short_too held [] z last all = (last, tt)
short_too held (x ∷ xs) z last all = (all.0.short, short_too held xs z last all.1)

there_too : (held xs : List (List ℕ)) (z : List ℕ) → block_at held (id_of z) ≡ Some z → all_parts held xs → AllByRecursion (λ b. block_at held (id_of b) ≡ Some b) (xs ++ z ∷ [])
there_too held [] z last all = (last, tt)
there_too held (x ∷ xs) z last all = (all.0.there, there_too held xs z last all.1)

pub named_stands : (h : List ℕ → List ℕ) (rows : List Row) (ty : TypeNo) (id : List ℕ) (held : List (List ℕ)) (b name source : List ℕ) (t : Data) (v : Value) → AreNaming name source → id_of b ≡ id → block_at held id ≡ Some b
    → IsBlockOf b (named_data name (id_of (schema_block source)) t) → block_at held (id_of (schema_block source)) ≡ Some (schema_block source) → IsHeld (block_at held) h rows 95 (plainly ty) t v
    → StandsInNamed h rows ty id held b v
named_stands h rows ty id held b name source t v naming is_id there block linked has =
    let root : List ℕ = spell (named_data name (id_of (schema_block source)) t) in
    let same : id_of root ≡ id = ap id_of (sym block.spelled) ∙ is_id in
    let here : block_at held (id_of root) ≡ Some root = ap (block_at held) same ∙ there ∙ ap Some block.spelled in
    record {
      name = name;
      source = source;
      is = record {
        naming = naming;
        stands = record {
          tree = t;
          storable = record { fits = has.fits; tree = has.tree; sized = (block.within.sized, short_too held (nodes h rows (plainly ty) v) (schema_block source) naming.short has.held) };
          root = sym same;
          all = (here, there_too held (nodes h rows (plainly ty) v) (schema_block source) linked has.held);
        };
      };
      spelled = block.spelled;
    }
