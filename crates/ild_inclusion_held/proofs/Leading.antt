-- What blocks say of a path, a value answers that stands under the root.
use Rattle.std.proofs.Common.{◌≡◌, ℕ, ◌+◌, List, [], ◌∷◌, Bool, true, false, Option, Some, None, Ok, Err, inl, inr, refl, sym, ap, ◌∙◌, subst}
use Rattle.std.specs.Prelude.{◌⊎◌, Contains, MatchOption, option_map}
use Rattle.std.specs.FinMap.{find}
use Rattle.std.specs.List.{AllByRecursion}
use Rattle.std.specs.Option.{option_map_or}
use Rattle.std.proofs.lemmas.Option.{none-some, same_Some}
use Rattle.ild_cbor.specs.Block.{IsBlockOf}
use Rattle.ild_data.proofs.AllOf.{all_split}
use Rattle.ild_data.specs.ByteOrder.{bytewise, in_byte_order}
use Rattle.ild_data.specs.Data.{Data}
use Rattle.ild_data.specs.Key.{value_at}
use Rattle.ild_data.specs.Limits.{deepest}
use Rattle.ild_data.specs.Spell.{id_of, spell}
use Rattle.ild_data.specs.Tree.{IsTree}
use Rattle.ild_edges.specs.Store.{block_at}
use Rattle.ild_open_held_roots.proofs.Entering.{root_front}
use Rattle.ild_path_edits.proofs.RoomTests.{schemas_have_tests}
use Rattle.ild_path_edits.specs.Along.{room_below}
use Rattle.ild_path_room.proofs.Rooting.{hamt_type}
use Rattle.ild_schema.proofs.Legibly.{legible}
use Rattle.ild_schema.specs.Clear.{IsSafe}
use Rattle.ild_schema.specs.Slots.{form_of, plainly}
use Rattle.ild_schema.specs.Value as V
use Rattle.ild_schema.specs.Value.{Value, pairs_list}
use Rattle.ild_schema.specs.declared.def.TypeDef.{TypeDef}
use Rattle.ild_schema.specs.declared.number.Slot.{Slot}
use Rattle.ild_schema.specs.declared.number.TypeNo.{TypeNo}
use Rattle.ild_schema.specs.declared.row.Row.{Row}
use Rattle.ild_typed.proofs.OneValue.{element_safe, plain_safe, safe_parts}
use Rattle.ild_typed.proofs.Rooms.{all_more}
use Rattle.ild_typed.proofs.TreeValues.{whole_tree}
use Rattle.ild_typed.specs.At.{InSlot, seen}
use Rattle.ild_typed.specs.Blocks.{nodes}
use Rattle.ild_typed.specs.Hamt.{alone, whole}
use Rattle.ild_typed.specs.OfType.{OfType}
use Rattle.ild_typed.specs.Represented.{represented}
use Rattle.ild_typed.specs.Schema.{IsSchema}
use Rattle.ild_typed.specs.Segment.{part}
use Rattle.ild_typed.specs.Slots.{element_of}
use Rattle.ild_typed.specs.Stands.{bare, blocks_of}
use Rattle.ild_typed_fronts.proofs.Representing.{fronts_are_one, fronts_represent}
use Rattle.ild_typed_fronts.proofs.Seeing.{parts_of_fronts}
use Rattle.ild_typed_fronts.specs.Front.{front, front_in, fronts_of_pairs, is_root, root_or_map}
use Rattle.ild_view.specs.Roots.{root_in}
use Rattle.ild_inclusion.specs.Branches.{found, not_found, not_so, so}
use Rattle.ild_inclusion.specs.Says.{AtKey, Ends, EndsHere, Enters, EntersRoot, Follows, Fronted, Goes, GoesToSlot, Outcome, BlocksSay, Walks}
use Rattle.ild_inclusion.specs.Way.{Spelling}
use Rattle.ild_inclusion.specs.declared.answer.Answer.{Answer}
use Rattle.ild_inclusion.specs.declared.answer.Answer.TheVariants as A
use Rattle.ild_inclusion.specs.declared.fault.Reject.{Reject}
use Rattle.ild_inclusion.specs.declared.fault.Reject.TheVariants as R
use Rattle.ild_inclusion_held.specs.Answered.{answered}
use Rattle.ild_inclusion_held.specs.Laws.{ProofsHold, TwoCollide, ValuesAnswer}
use Rattle.ild_inclusion_held.proofs.Among.{AreAlike, IsAmong, IsRooted, part_among, parts_are_among, roots_are_rooted}
use Rattle.ild_inclusion_held.proofs.Descending.{EndsAt, same_data, way_holds}
use Rattle.ild_inclusion_held.proofs.Finding.{all_own, contains_first, contains_later, held_in, same_or_collide}
use Rattle.ild_inclusion_held.proofs.Spelled.{block_bytes, tree_bytes}

-- of what is no root, the front is none
no_root_in : (h : List ℕ → List ℕ) (rows : List Row) (s : Slot) (v : Value) → is_root rows (s, v) ≡ false → root_in (front h rows s v) ≡ None
no_root_in h rows s V.null e = refl
no_root_in h rows s (V.boolean b) e = refl
no_root_in h rows s (V.integer n) e = refl
no_root_in h rows s (V.text t) e = refl
no_root_in h rows s (V.bytes t) e = refl
no_root_in h rows s (V.link t) e = refl
no_root_in h rows s (V.list vs) e = refl
no_root_in h rows s (V.map ps) e = ap (λ b. root_in (root_or_map b (represented (whole h) rows s (V.map ps)) (option_map_or (λ u. fronts_of_pairs h rows u ps) (element_of (form_of rows s)) ps))) e
no_root_in h rows s (V.struct os) e = refl
no_root_in h rows s (V.union n v) e = refl
no_root_in h rows s (V.enum n) e = refl
no_root_in h rows s V.unit e = refl
no_root_in h rows s (V.any d) e = refl
no_root_in h rows s (V.hamt d) e = absurd cc

module _ (h : List ℕ → List ℕ) (rows : List Row) (schema : IsSchema rows) (blocks others : List (List ℕ)) (a : Answer) where
  abbrev Is : Outcome → Type 0
  Is o = o ≡ Ok a

  abbrev Told : ℕ → InSlot → List (List ℕ) → Type 0
  Told k p path = (answered h rows k p path ≡ Some a) ⊎ TwoCollide blocks others

  abbrev Inside : List (List ℕ) → Type 0
  Inside bs = (b : List ℕ) → Contains bs b → Contains blocks b

  never : (r : Reject) → Is (Err r) → ⊥
  never r e = absurd cc

  ended : (i : ℕ) (bs : List (List ℕ)) (x : Answer) → Ends Is i bs x → x ≡ a
  ended i [] x e = let same : x ≡ a = cc in same
  ended i (b ∷ bs) x e = absurd (never (R.Extra (i + 1)) e)

  safe_by : (s u : Slot) (d : Option TypeDef) → form_of rows s ≡ d → element_of d ≡ Some u → IsSafe rows u
  safe_by s u None known e = absurd (none-some u e)
  safe_by s u (Some d) known e = element_safe rows d (safe_parts rows (legible rows schema.accepted).clear s d known) u e

  abbrev Onward : List (List ℕ) → Type 0
  Onward ss = (room k i : ℕ) (p : InSlot) (t : Data) (bs : List (List ℕ)) → IsAmong others h rows p.0 t p.1 → Inside bs → Follows h rows Is room k i (front_in h rows p) ss bs → Told k p ss

  here : (k i : ℕ) (p : InSlot) (bs : List (List ℕ)) → EndsHere rows Is i (front_in h rows p) bs → Told k p []
  here k i p bs e =
      let whole_is = sym (fronts_represent h rows p.0 p.1) ∙ e.shown in
      inl (ap (option_map (λ d. A.Here (spell d))) whole_is ∙ ap Some (ended i bs (A.Here (spell e.tree)) e.ends))

  module _ (s : List ℕ) (ss : List (List ℕ)) (onward : Onward ss) (room k : ℕ) (p : InSlot) where
    abbrev less : ℕ
    less = room_below rows room p s

    abbrev On : ℕ → InSlot → List (List ℕ) → Type 0
    On j q cs = Follows h rows Is less (k + 1) j q ss cs

    abbrev Off : ℕ → List (List ℕ) → Type 0
    Off j cs = Ends Is j cs (A.Absent k)

    abbrev Wrong : Reject → Type 0
    Wrong r = Is (Err r)

    absent : (j : ℕ) (cs : List (List ℕ)) → part (seen rows p) s ≡ None → Off j cs → Told k p (s ∷ ss)
    absent j cs none off = inl (ap (λ o. option_map_or (λ (q : InSlot). answered h rows (k + 1) q ss) o (Some (A.Absent k))) none ∙ ap Some (ended j cs (A.Absent k) off))

    there : (q : InSlot) → part (seen rows p) s ≡ Some q → Told (k + 1) q ss → Told k p (s ∷ ss)
    there q is (inl e) = inl (ap (λ o. option_map_or (λ (x : InSlot). answered h rows (k + 1) x ss) o (Some (A.Absent k))) is ∙ e)
    there q is (inr c) = inr c

    -- in the block
    by_part : (i : ℕ) (t : Data) (bs : List (List ℕ)) → IsAmong others h rows p.0 t p.1 → Inside bs → is_root rows p ≡ false → (o : Option InSlot) → part (seen rows p) s ≡ o
        → MatchOption (option_map (front_in h rows) o) (Enters rows (h s) s less p.0 i bs On Off Wrong (root_in (front h rows p.0 p.1))) (λ q. On i q bs) → Told k p (s ∷ ss)
    by_part i t bs has inside plain None is goes = absent i bs is (subst (λ o. Enters rows (h s) s less p.0 i bs On Off Wrong o) (no_root_in h rows p.0 p.1 plain) goes)
    by_part i t bs has inside plain (Some q) is goes =
        let d = parts_are_among others h rows schema p q t s has is in
        there q is (onward less (k + 1) i q d.0 bs d.1 inside goes)

    -- at the key of a HAMT
    at_entry : (t : Data) → IsAmong others h rows p.0 t p.1 → (value : Slot) → element_of (form_of rows p.0) ≡ Some value → (o : Option Data) (w : Option Value) → part (seen rows p) s ≡ option_map {U = InSlot} (λ w. (value, w)) w
        → AreAlike h rows value o w → (j : ℕ) (cs : List (List ℕ)) → Inside cs → AtKey (λ j cs t. GoesToSlot rows less p.0 j t (λ q. On j q cs) Wrong) Off j cs o → Told k p (s ∷ ss)
    at_entry t has value known None None parts alike j cs inside ends = absent j cs parts ends
    at_entry t has value known (Some d) (Some w) parts alike j cs inside ends =
        let slot : ends.slot ≡ value = same_Some ends.slot value (sym ends.is ∙ known) in
        by (subst (λ (u : Slot). Fronted rows less j u d (λ f. On j (u, f) cs) Wrong) slot ends.fronted) where
          by : Fronted rows less j value d (λ f. On j (value, f) cs) Wrong → Told k p (s ∷ ss)
          by (not_found none e) = absurd (never (R.Shape j) e)
          by (found f fits follow) =
              let same : f ≡ front h rows value w = fronts_are_one h rows schema value w f d (safe_by p.0 value (form_of rows p.0) refl known) alike fits.tree in
              let own = part_among others h rows schema p (value, w) t d s has parts alike in
              there (value, w) parts (onward less (k + 1) j (value, w) d cs own inside (subst (λ (g : Value). On j (value, g) cs) same follow))
    at_entry t has value known None (Some w) parts alike j cs inside ends = absurd alike
    at_entry t has value known (Some d) None parts alike j cs inside ends = absurd alike

    in_root : (i : ℕ) (t : Data) (bs : List (List ℕ)) → IsAmong others h rows p.0 t p.1 → Inside bs → is_root rows p ≡ true → EntersRoot rows (h s) s less p.0 t i bs On Off Wrong → Told k p (s ∷ ss)
    in_root i t bs has inside top e =
        let y = hamt_type (form_of rows p.0) e.shape e.named in
        let x = roots_are_rooted others h rows schema p.0 t e.slots y.key y.key_at y.value y.place e.shape y.form p.1 has top e.root in
        let way = way_holds h e.shape s blocks others (AtKey (λ j cs t. GoesToSlot rows less p.0 j t (λ q. On j q cs) Wrong) Off) Wrong never x.left 0 i (in_byte_order x.entries) e.slots bs x.node x.order x.known inside e.way in
        by y.value (ap element_of y.form) x way where
          by : (value : Slot) → element_of (form_of rows p.0) ≡ Some value → (x : IsRooted others h rows p value e.shape e.slots)
              → EndsAt h e.shape s blocks others (AtKey (λ j cs t. GoesToSlot rows less p.0 j t (λ q. On j q cs) Wrong) Off) Wrong never (find bytewise s (in_byte_order x.entries)) ⊎ TwoCollide blocks others → Told k p (s ∷ ss)
          by value known x (inr c) = inr c
          by value known x (inl n) = at_entry t has value known (find bytewise s (in_byte_order x.entries)) (value_at s (pairs_list x.pairs)) (x.parts s) (x.each s) n.at n.left n.inside n.ends

    by_root : (i : ℕ) (t : Data) (bs : List (List ℕ)) → IsAmong others h rows p.0 t p.1 → Inside bs → (b : Bool) → is_root rows p ≡ b → Goes h rows room i (front_in h rows p) s bs On Off Wrong → Told k p (s ∷ ss)
    by_root i t bs has inside true top goes =
        in_root i t bs has inside top (subst (λ (f : Value). Goes h rows room i (p.0, f) s bs On Off Wrong) (root_front h rows p.0 p.1 t has.tree top) goes)
    by_root i t bs has inside false plain goes =
        let tests = schemas_have_tests rows schema in
        let same = parts_of_fronts h rows tests.0.is_key schema tests.1.keys p s has.typed plain in
        by_part i t bs has inside plain (part (seen rows p) s) refl
        (subst (λ (o : Option InSlot). MatchOption o (Enters rows (h s) s less p.0 i bs On Off Wrong (root_in (front h rows p.0 p.1))) (λ q. On i q bs)) same goes)

  follows : (path : List (List ℕ)) → Onward path
  follows [] = λ room k i p t bs has inside f. here k i p bs f
  follows (s ∷ ss) = λ room k i p t bs has inside f. by_root s ss (follows ss) room k p i t bs has inside (is_root rows p) refl f

  module _ (n : TypeNo) (path : List (List ℕ)) (v : Value) (d : Data) (root : IsAmong others h rows (plainly n) d v) (first : Contains others (spell d)) where
    tree : IsTree d
    tree = (whole_tree h rows schema.table.texts.spelled root.typed.0 (plainly n) v d root.typed.1 root.tree).tree

    from_front : (t : Data) (bs : List (List ℕ)) → t ≡ d → Inside bs → Fronted rows deepest 0 (plainly n) t (λ f. Follows h rows Is deepest 0 0 (plainly n, f) path bs) (λ r. Is (Err r)) → Told 0 (plainly n, v) path
    from_front t bs e inside (not_found none w) = absurd (never (R.Shape 0) w)
    from_front t bs e inside (found f fits follow) =
        let same : f ≡ front h rows (plainly n) v = fronts_are_one h rows schema (plainly n) v f d (plain_safe rows (plainly n) refl) root.tree (subst (λ (x : Data). represented alone rows (plainly n) f ≡ Some x) e fits.tree) in
        follows path deepest 0 0 (plainly n, v) d bs root inside (subst (λ (g : Value). Follows h rows Is deepest 0 0 (plainly n, g) path bs) same follow)

    from_block : (b : List ℕ) (bs : List (List ℕ)) (t : Data) → Inside (b ∷ bs) → IsBlockOf b t → Fronted rows deepest 0 (plainly n) t (λ f. Follows h rows Is deepest 0 0 (plainly n, f) path bs) (λ r. Is (Err r))
        → (b ≡ spell d) ⊎ TwoCollide blocks others → Told 0 (plainly n, v) path
    from_block b bs t inside block rest (inl e) = from_front t bs (same_data b t d block tree e) (λ c in_. inside c (contains_later b c bs in_)) rest
    from_block b bs t inside block rest (inr c) = inr c

    by_spelling : (b : List ℕ) (bs : List (List ℕ)) → Inside (b ∷ bs) → id_of b ≡ id_of (spell d)
        → Spelling 0 b (λ t. Fronted rows deepest 0 (plainly n) t (λ f. Follows h rows Is deepest 0 0 (plainly n, f) path bs) (λ r. Is (Err r))) (λ r. Is (Err r)) → Told 0 (plainly n, v) path
    by_spelling b bs inside named (found t block rest) =
        from_block b bs t inside block rest (same_or_collide blocks others b (spell d) (inside b (contains_first b bs)) first (block_bytes b t block) (tree_bytes d tree) named)
    by_spelling b bs inside named (not_found none w) = absurd (never (R.Cbor 0) w)

    by_blocks : (bs : List (List ℕ)) → Inside bs → Walks h rows n (id_of (spell d)) path Is bs → Told 0 (plainly n, v) path
    by_blocks [] inside w = absurd (never R.Empty w)
    by_blocks (b ∷ bs) inside (not_so other w) = absurd (never R.Root w)
    by_blocks (b ∷ bs) inside (so named spelling) = by_spelling b bs inside named spelling

-- of a value with all its blocks among others
all_among : (h : List ℕ → List ℕ) (rows : List Row) → IsSchema rows → (n : TypeNo) (path blocks others : List (List ℕ)) (a : Answer) (v : Value) (d : Data) → OfType rows (plainly n) v → represented (whole h) rows (plainly n) v ≡ Some d
    → AllByRecursion (Contains others) (blocks_of bare h rows n v d) → BlocksSay h rows n (id_of (spell d)) path blocks a → (answered h rows 0 (plainly n, v) path ≡ Some a) ⊎ TwoCollide blocks others
all_among h rows schema n path blocks others a v d typed tree all says =
    let own = (all_split (Contains others) (nodes h rows (plainly n) v) [] all.1).0 in
    by_blocks h rows schema blocks others a n path v d (record { typed = typed; tree = tree; among = own }) all.0 blocks (λ b in_. in_) says

pub values_answer : ValuesAnswer
values_answer = λ h rows schema n path blocks a v d typed tree says.
    let own : List (List ℕ) = blocks_of bare h rows n v d in
    all_among h rows schema n path blocks own a v d (typed.0, typed.1) tree (all_own own) says

pub proofs_hold : ProofsHold
proofs_hold = λ h rows schema n id path blocks a says held v stands.
    let d = stands.tree in
    let own : List (List ℕ) = blocks_of bare h rows n v d in
    all_among h rows schema n path blocks held a v d (deepest, stands.storable.fits) stands.storable.tree
    (all_more (λ b. block_at held (id_of b) ≡ Some b) (Contains held) (λ b here. held_in held (id_of b) b here) own stands.all)
    (subst (λ (i : List ℕ). BlocksSay h rows n i path blocks a) stands.root says)
