-- What holds behind a walk may be exchanged for what follows from it.
use Rattle.std.proofs.Common.{ℕ, ◌+◌, List, [], ◌∷◌, Option, Some, None, Ok, Err}
use Rattle.std.specs.Prelude.{get_or, MatchOption}
use Rattle.ild_cbor.specs.Block.{IsBlockOf}
use Rattle.ild_data.specs.Data.{Data}
use Rattle.ild_data.specs.Spell.{spell}
use Rattle.ild_data.specs.Trie.{TrieSlot, empty, bucket, child}
use Rattle.ild_data.specs.TrieShape.{index}
use Rattle.ild_data.specs.declared.hamt_shape.HamtShape.{HamtShape}
use Rattle.ild_path_edits.specs.Along.{room_below}
use Rattle.ild_schema.specs.declared.number.Slot.{Slot}
use Rattle.ild_schema.specs.declared.number.TypeNo.{TypeNo}
use Rattle.ild_schema.specs.declared.row.Row.{Row}
use Rattle.ild_typed.specs.At.{InSlot, seen}
use Rattle.ild_typed.specs.Segment.{part}
use Rattle.ild_view.specs.Roots.{root_in}
use Rattle.ild_inclusion.specs.Branches.{Whether, so, not_so, ElseBehind, found, not_found}
use Rattle.ild_inclusion.specs.Way.{AtSlot, NextNode, NodeIn, OnWay}
use Rattle.ild_inclusion.specs.Says.{AtKey, Ends, Enters, Follows, Goes, GoesToSlot, Outcome, Walks}
use Rattle.ild_inclusion.specs.declared.answer.Answer.{Answer}
use Rattle.ild_inclusion.specs.declared.answer.Answer.TheVariants as A
use Rattle.ild_inclusion.specs.declared.fault.Reject.{Reject}
use Rattle.ild_inclusion.specs.declared.fault.Reject.TheVariants as R

pub whether_map : {P Y N Z M : Type 0} → (Y → Z) → (N → M) → Whether P Y N → Whether P Z M
whether_map f g (so p y) = so p (f y)
whether_map f g (not_so p n) = not_so p (g n)

pub finds_map : {X : Type 0} (Is B C : X → Type 0) (N M : Type 0) → ((x : X) → B x → C x) → (N → M) → ElseBehind Is B N → ElseBehind Is C M
finds_map Is B C N M f g (found x is b) = found x is (f x b)
finds_map Is B C N M f g (not_found never n) = not_found never (g n)

module _ (W V : Reject → Type 0) (wrong : (r : Reject) → W r → V r) where
  pub node_map : (p : HamtShape) (id : List ℕ) (i : ℕ) (b : List ℕ) (B C : List TrieSlot → Type 0) → ((slots : List TrieSlot) → B slots → C slots) → NodeIn p id i b B W → NodeIn p id i b C V
  node_map p id i b B C f n =
      whether_map (finds_map (IsBlockOf b) _ _ _ _ (λ t. finds_map _ B C _ _ f (wrong (R.Shape i))) (wrong (R.Cbor i))) (wrong (R.Missing i)) n

  pub next_map : (p : HamtShape) (id : List ℕ) (i : ℕ) (bs : List (List ℕ)) (B C : List TrieSlot → List (List ℕ) → Type 0) → ((slots : List TrieSlot) (cs : List (List ℕ)) → B slots cs → C slots cs) → NextNode p id i bs B W → NextNode p id i bs C V
  next_map p id i [] B C f n = wrong (R.Missing (i + 1)) n
  next_map p id i (b ∷ bs) B C f n = node_map p id (i + 1) b _ _ (λ slots. f slots bs) n

  slot_map : (key : List ℕ) (E F : Option Data → Type 0) (O P : List ℕ → Type 0) → ((o : Option Data) → E o → F o) → ((id : List ℕ) → O id → P id) → (s : TrieSlot) → AtSlot key E O s → AtSlot key F P s
  slot_map key E F O P f g empty a = f _ a
  slot_map key E F O P f g (bucket es) a = f _ a
  slot_map key E F O P f g (child id) a = g id a

  pub way_map : (p : HamtShape) (hash key : List ℕ) (E F : ℕ → List (List ℕ) → Option Data → Type 0) → ((i : ℕ) (bs : List (List ℕ)) (o : Option Data) → E i bs o → F i bs o)
      → (depth i : ℕ) (slots : List TrieSlot) (bs : List (List ℕ)) → OnWay p hash key E W depth i slots bs → OnWay p hash key F V depth i slots bs
  way_map p hash key E F f depth i slots [] n =
      slot_map key (E i []) (F i []) _ _ (f i []) (λ id. whether_map (wrong (R.Missing (i + 1))) (wrong (R.Shape i))) (get_or slots (index p hash depth) empty) n
  way_map p hash key E F f depth i slots (b ∷ bs) n =
      slot_map key (E i (b ∷ bs)) (F i (b ∷ bs)) _ _ (f i (b ∷ bs))
      (λ id. whether_map (node_map p id (i + 1) b _ _ (λ below. way_map p hash key E F f (depth + 1) (i + 1) below bs)) (wrong (R.Shape i))) (get_or slots (index p hash depth) empty) n

  module _ (On Onto : ℕ → InSlot → List (List ℕ) → Type 0) (on : (j : ℕ) (q : InSlot) (cs : List (List ℕ)) → On j q cs → Onto j q cs)
      (Off Offto : ℕ → List (List ℕ) → Type 0) (off : (j : ℕ) (cs : List (List ℕ)) → Off j cs → Offto j cs) (rows : List Row) where
    pub slot_goes_map : (room : ℕ) (s : Slot) (j : ℕ) (cs : List (List ℕ)) (t : Data) → GoesToSlot rows room s j t (λ q. On j q cs) W → GoesToSlot rows room s j t (λ q. Onto j q cs) V
    slot_goes_map room s j cs t g = record { slot = g.slot; is = g.is; fronted = finds_map _ _ _ _ _ (λ f. on j (g.slot, f) cs) (wrong (R.Shape j)) g.fronted }

    at_key_map : (room : ℕ) (s : Slot) (j : ℕ) (cs : List (List ℕ)) (o : Option Data) → AtKey (λ j cs t. GoesToSlot rows room s j t (λ q. On j q cs) W) Off j cs o → AtKey (λ j cs t. GoesToSlot rows room s j t (λ q. Onto j q cs) V) Offto j cs o
    at_key_map room s j cs None a = off j cs a
    at_key_map room s j cs (Some t) a = slot_goes_map room s j cs t a

    enters_map : (hash key : List ℕ) (room : ℕ) (s : Slot) (i : ℕ) (bs : List (List ℕ)) (o : Option Data) → Enters rows hash key room s i bs On Off W o → Enters rows hash key room s i bs Onto Offto V o
    enters_map hash key room s i bs None e = off i bs e
    enters_map hash key room s i bs (Some d) e = record { shape = e.shape; named = e.named; slots = e.slots; root = e.root; way = way_map e.shape hash key _ _ (at_key_map room s) 0 i e.slots bs e.way }

    pub goes_map : (h : List ℕ → List ℕ) (room i : ℕ) (p : InSlot) (s : List ℕ) (bs : List (List ℕ)) → Goes h rows room i p s bs On Off W → Goes h rows room i p s bs Onto Offto V
    goes_map h room i p s bs g = by (part (seen rows p) s) g where
      by : (o : Option InSlot) → MatchOption o (Enters rows (h s) s (room_below rows room p s) p.0 i bs On Off W (root_in p.1)) (λ q. On i q bs)
          → MatchOption o (Enters rows (h s) s (room_below rows room p s) p.0 i bs Onto Offto V (root_in p.1)) (λ q. Onto i q bs)
      by None e = enters_map (h s) s (room_below rows room p s) p.0 i bs (root_in p.1) e
      by (Some q) e = on i q bs e

module _ (Is Was : Outcome → Type 0) (then_ : (o : Outcome) → Was o → Is o) where
  pub ends_map : (i : ℕ) (bs : List (List ℕ)) (a : Answer) → Ends Was i bs a → Ends Is i bs a
  ends_map i [] a e = then_ (Ok a) e
  ends_map i (b ∷ bs) a e = then_ (Err (R.Extra (i + 1))) e

  pub follows_map : (h : List ℕ → List ℕ) (rows : List Row) (room k i : ℕ) (p : InSlot) (path bs : List (List ℕ)) → Follows h rows Was room k i p path bs → Follows h rows Is room k i p path bs
  follows_map h rows room k i p [] bs f = record { tree = f.tree; shown = f.shown; ends = ends_map i bs (A.Here (spell f.tree)) f.ends }
  follows_map h rows room k i p (s ∷ ss) bs f =
      goes_map _ _ (λ r. then_ (Err r)) _ _ (λ j q cs. follows_map h rows (room_below rows room p s) (k + 1) j q ss cs) _ _ (λ j cs. ends_map j cs (A.Absent k)) rows h room i p s bs f

  pub walks_map : (h : List ℕ → List ℕ) (rows : List Row) (n : TypeNo) (id : List ℕ) (path blocks : List (List ℕ)) → Walks h rows n id path Was blocks → Walks h rows n id path Is blocks
  walks_map h rows n id path [] w = then_ (Err R.Empty) w
  walks_map h rows n id path (b ∷ bs) w =
      whether_map (finds_map (IsBlockOf b) _ _ _ _ (λ t. finds_map _ _ _ _ _ (λ f. follows_map h rows _ 0 0 _ path bs) (then_ (Err (R.Shape 0)))) (then_ (Err (R.Cbor 0)))) (then_ (Err R.Root)) w
