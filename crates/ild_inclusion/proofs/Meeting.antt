-- A walk has one outcome: what holds behind two walks of the same blocks meets at one place.
use Rattle.std.proofs.Common.{◌≡◌, ℕ, ◌+◌, List, [], ◌∷◌, Option, Some, None, Ok, Err, sym, ◌∙◌, subst, arith}
use Rattle.std.specs.Prelude.{get_or, MatchOption}
use Rattle.std.proofs.lemmas.Option.{same_Some}
use Rattle.ild_cbor.specs.Block.{IsBlockOf}
use Rattle.ild_data.proofs.Apart.{one_meaning}
use Rattle.ild_data.specs.Data.{Data}
use Rattle.ild_data.specs.Limits.{deepest}
use Rattle.ild_data.specs.Spell.{spell}
use Rattle.ild_data.specs.Trie.{TrieSlot, empty, bucket, child, node_data}
use Rattle.ild_data.specs.TrieShape.{index}
use Rattle.ild_data.specs.declared.hamt_shape.HamtShape.{HamtShape}
use Rattle.ild_hamt_trie.proofs.Bits.{same_node}
use Rattle.ild_node_slots.proofs.Shapes.{whole_map}
use Rattle.ild_node_slots.proofs.Rooting.{root-same}
use Rattle.ild_path_edits.specs.Along.{room_below}
use Rattle.ild_schema.specs.Clear.{IsSafe}
use Rattle.ild_schema.specs.Slots.{form_of, plainly}
use Rattle.ild_schema.specs.declared.number.Slot.{Slot}
use Rattle.ild_schema.specs.declared.number.TypeNo.{TypeNo}
use Rattle.ild_schema.specs.declared.row.Row.{Row}
use Rattle.ild_schema.specs.Value.{Value}
use Rattle.ild_typed.specs.At.{InSlot, seen}
use Rattle.ild_typed.specs.Fits.{Front}
use Rattle.ild_typed.specs.Node.{IsRoot}
use Rattle.ild_typed.specs.Segment.{part}
use Rattle.ild_typed.specs.Slots.{element_of}
use Rattle.ild_view.specs.Roots.{root_in}
use Rattle.ild_inclusion.specs.Branches.{Whether, so, not_so, ElseBehind, found, not_found}
use Rattle.ild_inclusion.specs.Way.{AtSlot, IsNodeOf, NodeIn, OnWay}
use Rattle.ild_inclusion.specs.Says.{AtKey, Ends, EndsHere, Enters, Follows, Fronted, Goes, GoesToSlot, Outcome, Walks}
use Rattle.ild_inclusion.specs.declared.answer.Answer.{Answer}
use Rattle.ild_inclusion.specs.declared.answer.Answer.TheVariants as A
use Rattle.ild_inclusion.specs.declared.fault.Reject.{Reject}
use Rattle.ild_inclusion.specs.declared.fault.Reject.TheVariants as R

pub one_block : (b : List ℕ) (t u : Data) → IsBlockOf b t → IsBlockOf b u → t ≡ u
one_block b t u x y =
    let v = x.within in
    let w = y.within in
    let small = v.sized in
    one_meaning t u v.tree w.tree (omega (arith, small)) (sym x.spelled ∙ y.spelled)

pub one_node : (p : HamtShape) (t : Data) (xs ys : List TrieSlot) → IsNodeOf p t xs → IsNodeOf p t ys → xs ≡ ys
one_node p t xs ys x y = same_node xs ys (whole_map p.width _ p.wide x.form.many) (y.form.many ∙ sym x.form.many) (sym x.tree ∙ y.tree)

pub one_root : (p : HamtShape) (d : Data) (xs ys : List TrieSlot) → IsRoot p xs d → IsRoot p ys d → xs ≡ ys
one_root p d xs ys x y = same_node xs ys (whole_map p.width _ p.wide x.indices) (y.indices ∙ sym x.indices) (root-same p (node_data xs) (node_data ys) (sym x.tree ∙ y.tree))

module _ {C : Type 0} where
  pub whether_meet : {P Y N Z M : Type 0} → Whether P Y N → Whether P Z M → (Y → Z → C) → (N → M → C) → C
  whether_meet (so p y) (so q z) f g = f y z
  whether_meet (so p y) (not_so q m) f g = absurd (q p)
  whether_meet (not_so p n) (so q z) f g = absurd (p q)
  whether_meet (not_so p n) (not_so q m) f g = g n m

  pub finds_meet : {X : Type 0} (Is B D : X → Type 0) (N M : Type 0) → ((x y : X) → Is x → Is y → x ≡ y) → ElseBehind Is B N → ElseBehind Is D M → ((x : X) → Is x → B x → D x → C) → (N → M → C) → C
  finds_meet Is B D N M one (found x is b) (found y also d) f g = f x is b (subst D (sym (one x y is also)) d)
  finds_meet Is B D N M one (found x is b) (not_found never m) f g = absurd (never x is)
  finds_meet Is B D N M one (not_found never n) (found y also d) f g = absurd (never y also)
  finds_meet Is B D N M one (not_found never n) (not_found also m) f g = g n m

  slot_meet : (key : List ℕ) (E F : Option Data → Type 0) (O P : List ℕ → Type 0) (s : TrieSlot) → AtSlot key E O s → AtSlot key F P s → ((o : Option Data) → E o → F o → C) → ((id : List ℕ) → O id → P id → C) → C
  slot_meet key E F O P empty a b f g = f _ a b
  slot_meet key E F O P (bucket es) a b f g = f _ a b
  slot_meet key E F O P (child id) a b f g = g id a b

  module _ (W V : Reject → Type 0) (wrong : (r : Reject) → W r → V r → C) where
    node_meet : (p : HamtShape) (id : List ℕ) (i : ℕ) (b : List ℕ) (B D : List TrieSlot → Type 0) → NodeIn p id i b B W → NodeIn p id i b D V → ((slots : List TrieSlot) → B slots → D slots → C) → C
    node_meet p id i b B D x y f =
        whether_meet x y (λ s t. finds_meet (IsBlockOf b) _ _ _ _ (one_block b) s t (λ t is m n. finds_meet (IsNodeOf p t) B D _ _ (one_node p t) m n (λ slots node. f slots) (wrong (R.Shape i))) (wrong (R.Cbor i)))
        (wrong (R.Missing i))

    way_meet : (p : HamtShape) (hash key : List ℕ) (E F : ℕ → List (List ℕ) → Option Data → Type 0) → ((i : ℕ) (bs : List (List ℕ)) (o : Option Data) → E i bs o → F i bs o → C)
        → (depth i : ℕ) (slots : List TrieSlot) (bs : List (List ℕ)) → OnWay p hash key E W depth i slots bs → OnWay p hash key F V depth i slots bs → C
    way_meet p hash key E F f depth i slots [] x y =
        slot_meet key (E i []) (F i []) _ _ (get_or slots (index p hash depth) empty) x y (f i []) (λ id m n. whether_meet m n (wrong (R.Missing (i + 1))) (wrong (R.Shape i)))
    way_meet p hash key E F f depth i slots (b ∷ bs) x y =
        slot_meet key (E i (b ∷ bs)) (F i (b ∷ bs)) _ _ (get_or slots (index p hash depth) empty) x y (f i (b ∷ bs))
        (λ id m n. whether_meet m n (λ s t. node_meet p id (i + 1) b _ _ s t (λ below. way_meet p hash key E F f (depth + 1) (i + 1) below bs)) (wrong (R.Shape i)))

    module _ (rows : List Row) (one : (s : Slot) → IsSafe rows s → (room : ℕ) (t : Data) (f g : Value) → Front rows room s f t → Front rows room s g t → f ≡ g)
        (safe : (s u : Slot) → element_of (form_of rows s) ≡ Some u → IsSafe rows u)
        (On Onto : ℕ → InSlot → List (List ℕ) → Type 0) (on : (j : ℕ) (q : InSlot) (cs : List (List ℕ)) → On j q cs → Onto j q cs → C)
        (Off Offto : ℕ → List (List ℕ) → Type 0) (off : (j : ℕ) (cs : List (List ℕ)) → Off j cs → Offto j cs → C) where
      slot_goes_meet : (room : ℕ) (s : Slot) (j : ℕ) (cs : List (List ℕ)) (t : Data) → GoesToSlot rows room s j t (λ q. On j q cs) W → GoesToSlot rows room s j t (λ q. Onto j q cs) V → C
      slot_goes_meet room s j cs t x y =
          let same = same_Some y.slot x.slot (sym y.is ∙ x.is) in
          finds_meet (λ f. Front rows room x.slot f t) (λ f. On j (x.slot, f) cs) (λ f. Onto j (x.slot, f) cs) _ _ (one x.slot (safe s x.slot x.is) room t) x.fronted
          (subst (λ (u : Slot). Fronted rows room j u t (λ f. Onto j (u, f) cs) V) same y.fronted) (λ f front. on j (x.slot, f) cs) (wrong (R.Shape j))

      at_key_meet : (room : ℕ) (s : Slot) (j : ℕ) (cs : List (List ℕ)) (o : Option Data) → AtKey (λ j cs t. GoesToSlot rows room s j t (λ q. On j q cs) W) Off j cs o
          → AtKey (λ j cs t. GoesToSlot rows room s j t (λ q. Onto j q cs) V) Offto j cs o → C
      at_key_meet room s j cs None x y = off j cs x y
      at_key_meet room s j cs (Some t) x y = slot_goes_meet room s j cs t x y

      enters_meet : (hash key : List ℕ) (room : ℕ) (s : Slot) (i : ℕ) (bs : List (List ℕ)) (o : Option Data) → Enters rows hash key room s i bs On Off W o → Enters rows hash key room s i bs Onto Offto V o → C
      enters_meet hash key room s i bs None x y = off i bs x y
      enters_meet hash key room s i bs (Some d) x y =
          let same : y.shape ≡ x.shape = same_Some y.shape x.shape (sym y.named ∙ x.named) in
          let root = subst (λ (p : HamtShape). IsRoot p y.slots d) same y.root in
          way_meet x.shape hash key (AtKey (λ j cs t. GoesToSlot rows room s j t (λ q. On j q cs) W) Off) (AtKey (λ j cs t. GoesToSlot rows room s j t (λ q. Onto j q cs) V) Offto) (at_key_meet room s) 0 i x.slots bs x.way
          (subst (λ slots. OnWay x.shape hash key (AtKey (λ j cs t. GoesToSlot rows room s j t (λ q. Onto j q cs) V) Offto) V 0 i slots bs) (one_root x.shape d y.slots x.slots root x.root)
          (subst (λ (p : HamtShape). OnWay p hash key (AtKey (λ j cs t. GoesToSlot rows room s j t (λ q. Onto j q cs) V) Offto) V 0 i y.slots bs) same y.way))

      goes_meet : (h : List ℕ → List ℕ) (room i : ℕ) (p : InSlot) (s : List ℕ) (bs : List (List ℕ)) → Goes h rows room i p s bs On Off W → Goes h rows room i p s bs Onto Offto V → C
      goes_meet h room i p s bs x y = by (part (seen rows p) s) x y where
        by : (o : Option InSlot) → MatchOption o (Enters rows (h s) s (room_below rows room p s) p.0 i bs On Off W (root_in p.1)) (λ q. On i q bs)
            → MatchOption o (Enters rows (h s) s (room_below rows room p s) p.0 i bs Onto Offto V (root_in p.1)) (λ q. Onto i q bs) → C
        by None x y = enters_meet (h s) s (room_below rows room p s) p.0 i bs (root_in p.1) x y
        by (Some q) x y = on i q bs x y

  module _ (Is Was : Outcome → Type 0) (meet : (o : Outcome) → Is o → Was o → C) where
    ends_meet : (i : ℕ) (bs : List (List ℕ)) (a : Answer) → Ends Is i bs a → Ends Was i bs a → C
    ends_meet i [] a x y = meet (Ok a) x y
    ends_meet i (b ∷ bs) a x y = meet (Err (R.Extra (i + 1))) x y

    module _ (h : List ℕ → List ℕ) (rows : List Row) (one : (s : Slot) → IsSafe rows s → (room : ℕ) (t : Data) (f g : Value) → Front rows room s f t → Front rows room s g t → f ≡ g)
        (safe : (s u : Slot) → element_of (form_of rows s) ≡ Some u → IsSafe rows u) where
      here_meet : (i : ℕ) (p : InSlot) (bs : List (List ℕ)) → EndsHere rows Is i p bs → EndsHere rows Was i p bs → C
      here_meet i p bs x y =
          ends_meet i bs (A.Here (spell x.tree)) x.ends (subst (λ (t : Data). Ends Was i bs (A.Here (spell t))) (same_Some y.tree x.tree (sym y.shown ∙ x.shown)) y.ends)

      follows_meet : (room k i : ℕ) (p : InSlot) (path bs : List (List ℕ)) → Follows h rows Is room k i p path bs → Follows h rows Was room k i p path bs → C
      follows_meet room k i p [] bs x y = here_meet i p bs x y
      follows_meet room k i p (s ∷ ss) bs x y =
          goes_meet _ _ (λ r. meet (Err r)) rows one safe _ _ (λ j q cs. follows_meet (room_below rows room p s) (k + 1) j q ss cs) _ _ (λ j cs. ends_meet j cs (A.Absent k)) h room i p s bs x y

      pub walks_meet : (n : TypeNo) → IsSafe rows (plainly n) → (id : List ℕ) (path blocks : List (List ℕ)) → Walks h rows n id path Is blocks → Walks h rows n id path Was blocks → C
      walks_meet n plain id path [] x y = meet (Err R.Empty) x y
      walks_meet n plain id path (b ∷ bs) x y =
          whether_meet x y
          (λ s t. finds_meet (IsBlockOf b) _ _ _ _ (one_block b) s t
          (λ t is m n'. finds_meet (λ f. Front rows deepest (plainly n) f t) _ _ _ _ (one (plainly n) plain deepest t) m n' (λ f front. follows_meet deepest 0 0 (plainly n, f) path bs) (meet (Err (R.Shape 0)))) (meet (Err (R.Cbor 0))))
          (meet (Err R.Root))
