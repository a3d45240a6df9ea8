-- Where the blocks to which a root block leads stand among those of a value.
use Rattle.std.proofs.Common.{◌≡◌, ℕ, zero, suc, List, [], ◌∷◌, length, Some, sym, ap, ◌∙◌, subst, arith}
use Rattle.std.specs.Prelude.{Contains}
use Rattle.std.specs.List.{AllByRecursion}
use Rattle.std.specs.Option.{option_map_or}
use Rattle.std.proofs.lemmas.Option.{same_Some}
use Rattle.ild_beneath.proofs.Again.{data_again}
use Rattle.ild_beneath.proofs.Heights.{fits_high}
use Rattle.ild_beneath.proofs.Reading.{reads}
use Rattle.ild_beneath.specs.Children.{AreOf, Child, children_in, children_of}
use Rattle.ild_cbor.specs.Block.{IsBlockOf}
use Rattle.ild_data.proofs.AllOf.{all_split, all_contained}
use Rattle.ild_data.proofs.Apart.{one_meaning}
use Rattle.ild_data.specs.Data.{Data}
use Rattle.ild_data.specs.Limits.{IsWithin, deepest}
use Rattle.ild_data.specs.Spell.{id_of, spell}
use Rattle.ild_data.specs.Tree.{IsTree}
use Rattle.ild_edges.specs.Store.{block_at}
use Rattle.ild_schema.proofs.Legibly.{legible}
use Rattle.ild_schema.specs.Slots.{plainly}
use Rattle.ild_schema.specs.Value.{Value}
use Rattle.ild_schema.specs.declared.number.TypeNo.{TypeNo}
use Rattle.ild_schema.specs.declared.row.Row.{Row}
use Rattle.ild_typed.proofs.TreeBlocks.{blocks_within}
use Rattle.ild_typed.specs.Nested.{IsBlock}
use Rattle.ild_typed.specs.Schema.{IsSchema}
use Rattle.ild_typed.specs.Stands.{IsFrame, Storable, bare, blocks_of}
use Rattle.ild_typed_places.proofs.Joining.{All, all_both}
use Rattle.ild_typed_places.proofs.Listing.{all_one}
use Rattle.ild_typed_places.proofs.Telling.{to_places}
use Rattle.ild_typed_places.specs.Places.{Places, nowhere, place, blocks_in, joined, places_in}
use Rattle.ild_compare.specs.Reached.{LeadsTo}

pub bare_frame : IsFrame bare
bare_frame = record { less = omega arith; apart = λ c d same. same; fits = λ d tree. tree; blocks = tt }

module _ (rows : List Row) (ty : TypeNo) where
  -- a block tells what the data tell that it spells
  pub told : (b : List ℕ) (kind : ℕ) (d : Data) → IsBlock b → IsTree d → b ≡ spell d → children_of rows ty kind b ≡ children_in rows ty kind d
  told b kind d block tree is =
      let same : d ≡ block.of = one_meaning d block.of tree block.within.tree (let short = block.within.sized in omega (arith, short, ap length (sym is ∙ block.is))) (sym is ∙ block.is) in
      let spelled : IsBlockOf b d = record { within = subst IsWithin (sym same) block.within; spelled = is } in
      ap (λ o. option_map_or (children_in rows ty kind) o []) (data_again b d spelled)

  -- ---- a place for each child

  module _ (P : List ℕ → Type 0) where
    pub record IsPlaced (c : Child) : Type 0 where
      pub block : List ℕ
      pub beneath : Places
      pub named : id_of block ≡ c.0
      pub fits : P block
      pub below : All P beneath
      pub data_is : Data
      pub tree : IsTree data_is
      pub is : block ≡ spell data_is
      pub of : AreOf rows ty (children_in rows ty c.1 data_is) beneath

    pub all_placed : (cs : List Child) (ps : Places) → AreOf rows ty cs ps → All P ps → AllByRecursion IsPlaced cs
    all_placed [] ps of all = tt
    all_placed (c ∷ cs) nowhere of all = absurd of
    all_placed (c ∷ cs) (place b beneath ps) of all =
        let parts = all_split P (blocks_in beneath) (blocks_in ps) all.1 in
        (record { block = b; beneath = beneath; named = of.0; fits = all.0; below = parts.0; data_is = of.1.0; tree = of.1.1; is = of.1.2; of = of.1.3 }, all_placed cs ps of.2 parts.1)

-- ---- of a value

module _ (h : List ℕ → List ℕ) (rows : List Row) (schema : IsSchema rows) (ty : TypeNo) (v : Value) (t : Data) (storable : Storable bare h rows ty v t) where
  abbrev pub blocks : List (List ℕ)
  blocks = blocks_of bare h rows ty v t

  abbrev pub home : Places
  home = places_in h rows (plainly ty) v

  -- what the data of the root block tell is what stands beneath it
  pub home_is : AreOf rows ty (children_in rows ty 0 t) home
  home_is =
      let high = fits_high rows deepest (plainly ty) v storable.fits in
      reads h rows (legible rows schema.accepted).clear schema.table.texts.spelled ty (plainly ty) v t deepest storable.tree high storable.fits

  pub are_blocks : AllByRecursion IsBlock blocks
  are_blocks = blocks_within bare bare_frame h rows schema.table.texts.spelled ty v t storable

  pub home_all : (P : List ℕ → Type 0) → AllByRecursion P blocks → All P home
  home_all P all =
      let each = to_places P bare h rows ty v t all in
      let below : All P (joined home nowhere) = (all_split P (blocks_in (joined home nowhere)) [] each.1).0 in
      (all_both P home nowhere below).0

  -- the root block tells the same
  pub root_tells : (root : List ℕ) → IsBlock root → IsTree t → root ≡ spell t → AreOf rows ty (children_of rows ty 0 root) home
  root_tells root block tree is = subst (λ (cs : List Child). AreOf rows ty cs home) (sym (told rows ty root 0 t block tree is)) home_is

  module _ (held : List (List ℕ)) (all : AllByRecursion (λ b. block_at held (id_of b) ≡ Some b) blocks) where
    -- what is known of each block
    pub record Known (b : List ℕ) : Type 0 where
      pub block : IsBlock b
      pub under : block_at held (id_of b) ≡ Some b
      pub among : Contains blocks b

    all_known : (bs : List (List ℕ)) → AllByRecursion IsBlock bs → AllByRecursion (λ b. block_at held (id_of b) ≡ Some b) bs → AllByRecursion (Contains blocks) bs → AllByRecursion Known bs
    all_known [] a b c = tt
    all_known (d ∷ bs) a b c = (record { block = a.0; under = b.0; among = c.0 }, all_known bs a.1 b.1 c.1)

    pub known : AllByRecursion Known blocks
    known = all_known blocks are_blocks all (all_one blocks)

    abbrev Placed : Child → Type 0
    Placed c = IsPlaced rows ty Known c

    -- one block is held under an id
    pub placed_block : (b : List ℕ) (kind : ℕ) (p : Placed (id_of b, kind)) → block_at held (id_of b) ≡ Some b → p.block ≡ b
    placed_block b kind p under = same_Some p.block b (sym p.fits.under ∙ ap (block_at held) p.named ∙ under)

    next : (b : List ℕ) (kind : ℕ) (c : Child) → Placed (id_of b, kind) → block_at held (id_of b) ≡ Some b → Contains (children_of rows ty kind b) c → Placed c
    next b kind c p under has =
        let same = placed_block b kind p under in
        let tells : children_of rows ty kind b ≡ children_in rows ty kind p.data_is = ap (children_of rows ty kind) (sym same) ∙ told rows ty p.block kind p.data_is p.fits.block p.tree p.is in
        all_contained Placed (children_in rows ty kind p.data_is) c (all_placed rows ty Known (children_in rows ty kind p.data_is) p.beneath p.of p.below) (subst (λ (cs : List Child). Contains cs c) tells has)

    module _ (root : List ℕ) (block : IsBlock root) (tree : IsTree t) (is : root ≡ spell t) where
      first : (c : Child) → Contains (children_of rows ty 0 root) c → Placed c
      first c has = all_contained Placed (children_of rows ty 0 root) c (all_placed rows ty Known (children_of rows ty 0 root) home (root_tells root block tree is) (home_all Known known)) has

      -- each child to which the root block leads has a place
      pub led : (many : ℕ) (c : Child) → LeadsTo rows ty root (Some held) many c → Placed c
      led zero c has = first c has
      led (suc many) c x = next x.0 x.1 c (led many (id_of x.0, x.1) x.2) x.3 x.4
