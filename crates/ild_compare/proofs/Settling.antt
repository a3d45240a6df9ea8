-- What a walk in step tells of the values that stand at two documents.
use Rattle.std.proofs.Common.{◌≡◌, ◌≢◌, ◌⊎◌, inl, inr, ℕ, List, Option, Some, None, refl, sym, ap, ◌∙◌, subst, arith}
use Rattle.std.specs.Prelude.{Contains, Result, Ok, Err}
use Rattle.std.proofs.lemmas.Option.{none-some}
use Rattle.ild_beneath.specs.Children.{AreOf, children_of}
use Rattle.ild_data.proofs.AllOf.{all_both}
use Rattle.ild_data.specs.Bytes.{AreBytes}
use Rattle.ild_data.specs.Limits.{deepest}
use Rattle.ild_data.specs.Spell.{id_of}
use Rattle.ild_data.specs.Tree.{IsTree}
use Rattle.ild_edges.specs.Store.{Moment, block_at}
use Rattle.ild_edges.specs.Told.{IfTold}
use Rattle.ild_open.specs.Opened.{StandsInBlock}
use Rattle.ild_open_parts.specs.Reads.{OnlyReads}
use Rattle.ild_open_parts.specs.declared.fault.OpenFault.{OpenFault}
use Rattle.ild_open_parts.specs.declared.fault.OpenFault.TheVariants as F
use Rattle.ild_schema.specs.Slots.{plainly}
use Rattle.ild_schema.specs.Value.{Value}
use Rattle.ild_schema.specs.declared.number.TypeNo.{TypeNo}
use Rattle.ild_schema.specs.declared.row.Row.{Row}
use Rattle.ild_typed.proofs.TreeKept.{one_stands}
use Rattle.ild_typed.proofs.TreeValues.{whole_tree}
use Rattle.ild_typed.specs.Nested.{IsBlock}
use Rattle.ild_typed.specs.Schema.{IsSchema}
use Rattle.ild_typed.specs.Stands.{Stands, bare, blocks_of}
use Rattle.ild_typed_places.proofs.Joining.{All}
use Rattle.ild_typed_places.proofs.Telling.{from_places, to_places}
use Rattle.ild_typed_places.specs.Places.{nowhere, place, joined, value_places}
use Rattle.ild_view_doc.specs.Docs.{block_in, table_in, type_in}
use Rattle.ild_view_doc.specs.declared.doc.Doc.{Doc}
use Rattle.ild_compare.specs.Compared.{CompareAnswer, Compares, IsBlockOf, NotBoth, StandsFor, root_in}
use Rattle.ild_compare.specs.inside.Copied.{compared_as}
use Rattle.ild_compare.specs.Reached.{AreAlike, IsBeneath, IsLacking, IsUnder}
use Rattle.ild_compare.specs.inside.Walked.{WalkAnswer, Walks}
use Rattle.ild_compare.specs.declared.compared.Compared.{Compared}
use Rattle.ild_compare.specs.declared.compared.Compared.TheVariants as C
use Rattle.ild_compare.proofs.Alike.{one_home}
use Rattle.ild_compare.proofs.Placing.{are_blocks, bare_frame, home, home_all, led, placed_block, root_tells}

module _ (h : List ℕ → List ℕ) (rows : List Row) (schema : IsSchema rows) (ty : TypeNo) where
  abbrev Standing : List ℕ → List (List ℕ) → Value → Type 0
  Standing root held v = StandsInBlock h rows ty (id_of root) held root v

  module _ (root : List ℕ) (held : List (List ℕ)) (v : Value) (x : Standing root held v) where
    pub root_tree : IsTree x.stands.tree
    root_tree = (whole_tree h rows schema.table.texts.spelled deepest (plainly ty) v x.stands.tree x.stands.storable.fits x.stands.storable.tree).tree

    pub root_block : IsBlock root
    root_block = subst IsBlock (sym x.spelled) (are_blocks h rows schema ty v x.stands.tree x.stands.storable).0

    -- a block that is reached and held is one of the value's
    pub is_among : (b : List ℕ) → IsBeneath rows ty root (Some held) (id_of b) → IsUnder (Some held) b → Contains (blocks_of bare h rows ty v x.stands.tree) b
    is_among b y under =
        let p = led h rows schema ty v x.stands.tree x.stands.storable held x.stands.all root root_block root_tree x.spelled y.many (id_of b, y.kind) y.leads in
        subst (Contains (blocks_of bare h rows ty v x.stands.tree)) (placed_block h rows schema ty v x.stands.tree x.stands.storable held x.stands.all b y.kind p under) p.fits.among

    -- and none that is reached lacks
    pub never_lacks : (id : List ℕ) → IsBeneath rows ty root (Some held) id → block_at held id ≡ None → ⊥
    never_lacks id y none =
        let p = led h rows schema ty v x.stands.tree x.stands.storable held x.stands.all root root_block root_tree x.spelled y.many (id, y.kind) y.leads in
        none-some p.block (sym none ∙ ap (block_at held) (sym p.named) ∙ p.fits.under)

    pub own_home : AreOf rows ty (children_of rows ty 0 root) (home h rows schema ty v x.stands.tree x.stands.storable)
    own_home = root_tells h rows schema ty v x.stands.tree x.stands.storable root root_block root_tree x.spelled

    pub home_held : All (λ b. IsBlock b × (block_at held (id_of b) ≡ Some b)) (home h rows schema ty v x.stands.tree x.stands.storable)
    home_held =
        home_all h rows schema ty v x.stands.tree x.stands.storable (λ b. IsBlock b × (block_at held (id_of b) ≡ Some b))
        (all_both IsBlock (λ b. block_at held (id_of b) ≡ Some b) (blocks_of bare h rows ty v x.stands.tree) (are_blocks h rows schema ty v x.stands.tree x.stands.storable) x.stands.all)

  pub are_one : (root : List ℕ) (left right : List (List ℕ)) (v w : Value) → AreAlike rows ty root (Some left) (Some right) → Standing root left v → Standing root right w → v ≡ w
  are_one root left right v w alike x y =
      let same = one_home rows ty root left right alike _ _ (own_home root left v x) (own_home root right w y) (home_held root left v x) (home_held root right w y) in
      let places : value_places bare h rows ty v x.stands.tree ≡ value_places bare h rows ty w y.stands.tree =
      λ i. place ((sym x.spelled ∙ y.spelled) i) (joined (same i) nowhere) nowhere in
      let R : List ℕ → Type 0 = λ b. block_at right (id_of b) ≡ Some b in
      let all = from_places R bare h rows ty v x.stands.tree (subst (All R) (sym places) (to_places R bare h rows ty w y.stands.tree y.stands.all)) in
      let own : Stands bare (block_at right) h rows ty (id_of root) v = record { tree = x.stands.tree; storable = x.stands.storable; root = x.stands.root; all = all } in
      one_stands bare bare_frame (block_at right) h rows schema ty (id_of root) v w own y.stands

-- ---- of documents

module _ (h : List ℕ → List ℕ) (d : Doc) (schema : IsSchema (table_in d)) (m : Moment) where
  pub stand_among : (b : List ℕ) → IsBeneath (table_in d) (type_in d) (block_in d) m.blocks (id_of b) → IsUnder m.blocks b → IsBlockOf h d m b
  stand_among b y under v x =
      is_among h (table_in d) schema (type_in d) (block_in d) x.held v x.stands b
      (subst (λ o. IsBeneath (table_in d) (type_in d) (block_in d) o (id_of b)) x.told y) (subst (λ o. IsUnder o b) x.told under)

  pub stand_whole : (n : Moment) (id : List ℕ) → IsLacking (table_in d) (type_in d) (block_in d) m n id → (v : Value) → StandsFor h d m v → ⊥
  stand_whole n id y v x =
      never_lacks h (table_in d) schema (type_in d) (block_in d) x.held v x.stands id
      (subst (λ o. IsBeneath (table_in d) (type_in d) (block_in d) o id) x.told y.beneath) (subst (λ o. IfTold o (λ held. block_at held id ≡ None)) x.told y.lacks)

  -- the root block is one of the value's
  pub stand_root : IsBlockOf h d m (block_in d)
  stand_root v x = subst (Contains (blocks_of bare h (table_in d) (type_in d) v x.stands.stands.tree)) (sym x.stands.spelled) (0, omega arith, refl)

module _ (h : List ℕ → List ℕ) (left right : Doc) (schema : IsSchema (table_in left)) (table : table_in right ≡ table_in left) (type : type_in right ≡ type_in left) (m n : Moment) where
  abbrev pub compared : Result (Option (List ℕ × List ℕ)) OpenFault → Result Compared OpenFault
  compared (Ok o) = Ok (compared_as o)
  compared (Err e) = Err e

  pub compares_other : OnlyReads m m → OnlyReads n n → root_in left ≢ root_in right → Compares h left right m n (Ok C.Other) m n
  compares_other a b apart = record { answer = apart; other = λ d. refl; left_only = a; right_only = b }

  pub compares_blocks : OnlyReads m m → OnlyReads n n → root_in left ≡ root_in right → block_in left ≢ block_in right → AreBytes (block_in left) → AreBytes (block_in right)
      → Compares h left right m n (Ok (C.Collide (block_in left) (block_in right))) m n
  compares_blocks a b same apart first second = record {
    answer = (record { kept_bytes = first; new_bytes = second; differ = apart; one_id = same }, stand_root h left schema m, stand_root h right (subst IsSchema (sym table) schema) n);
    other = λ d. absurd (d same);
    left_only = a;
    right_only = b;
  }

  pub compares_memory : OnlyReads m m → OnlyReads n n → root_in left ≡ root_in right → Compares h left right m n (Err F.Memory) m n
  compares_memory a b same = record { answer = tt; other = λ d. absurd (d same); left_only = a; right_only = b }

  module _ (block : block_in right ≡ block_in left) where
    to_right : (G : List Row → TypeNo → List ℕ → Type 0) → G (table_in left) (type_in left) (block_in left) → G (table_in right) (type_in right) (block_in right)
    to_right G x =
        subst (λ b. G (table_in right) (type_in right) b) (sym block) (subst (λ t. G (table_in right) t (block_in left)) (sym type) (subst (λ r. G r (type_in left) (block_in left)) (sym table) x))

    to_left : (G : List Row → TypeNo → List ℕ → Type 0) → G (table_in right) (type_in right) (block_in right) → G (table_in left) (type_in left) (block_in left)
    to_left G x = subst (λ b. G (table_in left) (type_in left) b) block (subst (λ t. G (table_in left) t (block_in right)) type (subst (λ r. G r (type_in right) (block_in right)) table x))

    right_schema : IsSchema (table_in right)
    right_schema = subst IsSchema (sym table) schema

    not_both : (l r : Moment) (id : List ℕ)
        → IsLacking (table_in left) (type_in left) (block_in left) m l id ⊎ IsLacking (table_in left) (type_in left) (block_in left) n r id → NotBoth h left right m n
    not_both l r id (inl x) v w a b = stand_whole h left schema m l id x v a
    not_both l r id (inr x) v w a b = stand_whole h right right_schema n r id (to_right (λ rows ty root. IsLacking rows ty root n r id) x) w b

    lacking : (l r : Moment) (id : List ℕ)
        → IsLacking (table_in left) (type_in left) (block_in left) m l id ⊎ IsLacking (table_in left) (type_in left) (block_in left) n r id
        → IsLacking (table_in left) (type_in left) (block_in left) m l id ⊎ IsLacking (table_in right) (type_in right) (block_in right) n r id
    lacking l r id (inl x) = inl x
    lacking l r id (inr x) = inr (to_right (λ rows ty root. IsLacking rows ty root n r id) x)

    answered : (w : Result (Option (List ℕ × List ℕ)) OpenFault) (l r : Moment) → WalkAnswer (table_in left) (type_in left) (block_in left) m n w l r → CompareAnswer h left right m n (compared w) l r
    answered (Ok None) l r alike = λ v w x y.
        are_one h (table_in left) schema (type_in left) (block_in left) x.held y.held v w
        (subst (λ o. AreAlike (table_in left) (type_in left) (block_in left) (Some x.held) o) y.told (subst (λ o. AreAlike (table_in left) (type_in left) (block_in left) o n.blocks) x.told alike))
        x.stands (to_left (λ rows ty root. StandsInBlock h rows ty (id_of root) y.held root w) y.stands)
    answered (Ok (Some p)) l r x = (
      x.collide,
      stand_among h left schema m p.0 x.left_beneath x.left_under,
      stand_among h right right_schema n p.1 (to_right (λ rows ty root. IsBeneath rows ty root n.blocks (id_of p.1)) x.right_beneath) x.right_under,
    )
    answered (Err (F.Block id why)) l r x = (not_both l r id.0 x.1, x.0, lacking l r id.0 x.1)
    answered (Err F.Store) l r x = x
    answered (Err F.Memory) l r x = tt

    other_not : (result : Result Compared OpenFault) → root_in left ≢ root_in right → result ≡ Ok C.Other
    other_not result apart = absurd (apart (ap id_of (sym block)))

    -- behind one root block
    pub compares_walk : (w : Result (Option (List ℕ × List ℕ)) OpenFault) (l r : Moment) → Walks (table_in left) (type_in left) (block_in left) m n w l r → Compares h left right m n (compared w) l r
    compares_walk w l r x = record { answer = answered w l r x.answer; other = other_not (compared w); left_only = x.left_only; right_only = x.right_only }
