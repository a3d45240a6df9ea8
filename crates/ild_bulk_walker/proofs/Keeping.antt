-- A walker stays on its tree, and a block that it refuses is one of it.
use Rattle.std.proofs.Common.{◌≡◌, inl, inr, ℕ, suc, ◌+◌, ◌-◌, ◌<◌, ◌≤◌, false, List, [], ◌∷◌, ◌++◌, length, map, Option, Some, refl, sym, ap, ◌∙◌, subst, arith}
use Rattle.std.specs.Prelude.{reverse, Result, Ok, Err, IfErr}
use Rattle.std.proofs.lemmas.List.{map-append, reverse-append, length-append, length-map, length-reverse, reverse-reverse}
use Rattle.std.proofs.lemmas.Simd.{map-map}
use Rattle.ild_cbor.specs.declared.why.BlockWhy.{BlockWhy}
use Rattle.ild_cbor.specs.declared.why.BlockWhy.TheVariants.{Missing, Cbor, Shape as NoNode}
use Rattle.ild_data.specs.declared.hamt_shape.HamtShape.{HamtShape}
use Rattle.ild_data.specs.Data.{Data}
use Rattle.ild_data.specs.Trie.{TrieSlot}
use Rattle.ild_data.specs.TrieShape.{trie_levels}
use Rattle.ild_data.specs.declared.id.BlockId.{BlockId}
use Rattle.ild_edges.specs.Count.{Rose}
use Rattle.ild_edges.specs.Store.{Moment}
use Rattle.ild_node_slots.specs.declared.fault.HamtFault.{HamtFault}
use Rattle.ild_node_slots.specs.declared.fault.HamtFault.TheVariants as F
use Rattle.ild_node_slots.proofs.Shapes.{levels_some}
use Rattle.ild_bulk_walker.specs.Ahead.{walker_todo, walker_path}
use Rattle.ild_bulk_walker.specs.inside.Stepping.{NextIs, walker_here, IsTrieFault, IsFaultAt, IsEntered, IsUnchanged, IsTaken}
use Rattle.ild_bulk_walker.specs.Fetching.{IsRefused, GotSteps}
use Rattle.ild_bulk_walker.specs.OnTree.{HasNode, IsOnTree, IsWrong, IsWrongNode, SlotsMany, TreeMany}
use Rattle.ild_bulk_walker.specs.Standing.{way_of, indices_of, last_of, WalkStands, IsOn, IsBroken, KeepsOn, RowStands}
use Rattle.ild_bulk_walker.specs.Steps.{path_of}
use Rattle.ild_bulk_walker.specs.Todo.{Todo, give, enter, leave, node_todo, fits}
use Rattle.ild_bulk_walker.specs.declared.row.Row.{Row}
use Rattle.ild_bulk_walker.specs.declared.step.Child.{Child}
use Rattle.ild_bulk_walker.specs.declared.step.Step.{Step}
use Rattle.ild_bulk_walker.specs.declared.walker.Walker.{Walker}
use Rattle.ild_bulk_walker.proofs.Placed.{pass, at-end, root-stays, left-stands, enter-stands, at-node, enter-there, give-there, on-tree}

-- ---- faults that are told later

rose-since : (a b c : ℕ) → a ≤ b → Rose b c → Rose a c
rose-since a b c le rose = omega arith

wrong-since : (p : HamtShape) (h : List ℕ → List ℕ) (told : Option (List (List ℕ))) (root : List TrieSlot) (a b c : ℕ) (up id : List ℕ) (why : BlockWhy) → a ≤ b → IsWrong h p told root b c up id why → IsWrong h p told root a c up id why
wrong-since p h told root a b c up id Missing le w = (w.0, rose-since a b c le w.1)
wrong-since p h told root a b c up id (Cbor fault) le w = w
wrong-since p h told root a b c up id (NoNode why) le w = w

pub broken-since : (p : HamtShape) (h : List ℕ → List ℕ) (told : Option (List (List ℕ))) (root : List TrieSlot) (at : List ℕ) (a b c : ℕ) (e : HamtFault) → a ≤ b → IsBroken h p told root at b c e → IsBroken h p told root at a c e
broken-since p h told root at a b c (F.Block id why) le w = record { up = w.up; on = w.on; wrong = wrong-since p h told root a b c w.up id.0 why le w.wrong }
broken-since p h told root at a b c F.Exhausted le w = tt
broken-since p h told root at a b c F.Store le w = tt
broken-since p h told root at a b c (F.Clash id kept new) le w = tt
broken-since p h told root at a b c F.Size le w = tt
broken-since p h told root at a b c F.NoKey le w = tt
broken-since p h told root at a b c F.Memory le w = tt

pub err-since : {A : Type 0} (p : HamtShape) (h : List ℕ → List ℕ) (told : Option (List (List ℕ))) (root : List TrieSlot) (at : List ℕ) (a b c : ℕ) (r : Result A HamtFault) → a ≤ b → IfErr r (IsBroken h p told root at b c) → IfErr r (IsBroken h p told root at a c)
err-since p h told root at a b c (Ok x) le w = tt
err-since p h told root at a b c (Err e) le w = broken-since p h told root at a b c e le w

-- the walker stays on its tree; and a fault is told of it
abbrev pub StaysOn : HamtShape → Option (List (List ℕ)) → Walker → Walker → Type 0
StaysOn p told v w = (root : List TrieSlot) (at : List ℕ) → IsOn p told root at v → IsOn p told root at w

abbrev pub FaultOn : (p : HamtShape) → (List ℕ → List ℕ) → Option (List (List ℕ)) → ℕ → ℕ → Walker → HamtFault → Walker → Type 0
FaultOn p h told a b v e w = (root : List TrieSlot) (at : List ℕ) → IsOn p told root at v → IsOn p told root at w × IsBroken h p told root at a b e

pub keeps-more : {B : Type 0} (p : HamtShape) (h : List ℕ → List ℕ) (told : Option (List (List ℕ))) (a b c : ℕ) (u v w : Walker) (r : Result B HamtFault) → a ≤ b → StaysOn p told u v → KeepsOn p h told b c v r w → KeepsOn p h told a c u r w
keeps-more p h told a b c u v w r le first then = λ root at on. let s = then root at (first root at on) in (s.0, err-since p h told root at a b c r le s.1)

-- ---- ways

pair_of : Child → List ℕ × ℕ
pair_of c = (c.id.0, c.index)

way-long : (path : List Child) → length (way_of path) ≡ length path
way-long path = length-reverse (map (λ c. (c.id.0, c.index)) path) ∙ length-map path (λ (c : Child). (c.id.0, c.index))

pub way-snoc : (path front : List Child) (c : Child) → path ≡ front ++ c ∷ [] → way_of path ≡ (c.id.0, c.index) ∷ way_of front
way-snoc path front c is =
    ap way_of is ∙ ap reverse (map-append (λ (d : Child). (d.id.0, d.index)) front (c ∷ [])) ∙ reverse-append (map (λ (d : Child). (d.id.0, d.index)) front) ((c.id.0, c.index) ∷ [])

map-rev : {X Y : Type 0} (g : X → Y) (xs : List X) → map g (reverse xs) ≡ reverse (map g xs)
map-rev g [] = refl
map-rev g (x ∷ xs) =
    ap (map g) (reverse-append (x ∷ []) xs) ∙ map-append g (reverse xs) (x ∷ []) ∙ ap (λ ys. ys ++ g x ∷ []) (map-rev g xs) ∙ sym (reverse-append (g x ∷ []) (map g xs))

indices-path : (path : List Child) → reverse (indices_of (way_of path)) ≡ path_of path
indices-path path =
    ap reverse (map-rev (λ (q : List ℕ × ℕ). q.1) (map (λ (c : Child). (c.id.0, c.index)) path)) ∙ reverse-reverse (map (λ (q : List ℕ × ℕ). q.1) (map (λ (c : Child). (c.id.0, c.index)) path))
    ∙ map-map (λ (q : List ℕ × ℕ). q.1) (λ (c : Child). (c.id.0, c.index)) path

indices-long : (path : List Child) → length (indices_of (way_of path)) ≡ length path
indices-long path = length-map (way_of path) (λ (q : List ℕ × ℕ). q.1) ∙ way-long path

-- ---- a walker where it stands

is-on : (p : HamtShape) (told : Option (List (List ℕ))) (root : List TrieSlot) (at : List ℕ) (w : Walker) (way : List (List ℕ × ℕ)) (todo : List Todo) (given : ℕ) → w.at.0 ≡ at → length w.path.items < trie_levels p → way_of w.path.items ≡ way → walker_todo w ≡ todo → w.given ≡ given
    → WalkStands p told root way todo given → IsOn p told root at w
is-on p told root at w way todo given here short same steps count s = record {
  here = here;
  short = short;
  stands = subst (λ q. WalkStands p told root q (walker_todo w) w.given) (sym same) (subst (λ ts. WalkStands p told root way ts w.given) (sym steps) (subst (λ n. WalkStands p told root way todo n) (sym count) s));
}

unchanged-on : (p : HamtShape) (told : Option (List (List ℕ))) (root : List TrieSlot) (at : List ℕ) (v w : Walker) → IsUnchanged v w → IsOn p told root at v → IsOn p told root at w
unchanged-on p told root at v w u on =
    is-on p told root at w (way_of v.path.items) (walker_todo v) v.given (u.at ∙ on.here) (subst (λ (path : List Child). length path < trie_levels p) (sym u.children) on.short) (ap way_of u.children) u.todo u.given on.stands

-- the steps that are next, under their names
stands-at : (p : HamtShape) (told : Option (List (List ℕ))) (root : List TrieSlot) (at : List ℕ) (v : Walker) (todo : List Todo) → walker_todo v ≡ todo → IsOn p told root at v → WalkStands p told root (way_of v.path.items) todo v.given
stands-at p told root at v todo is on = subst (λ ts. WalkStands p told root (way_of v.path.items) ts v.given) is on.stands

-- ---- a node at fault

broken : (p : HamtShape) (h : List ℕ → List ℕ) (told : Option (List (List ℕ))) (root : List TrieSlot) (at : List ℕ) (a b : ℕ) (up here : List ℕ) (e : HamtFault) → IsOnTree p told root at up here → IsWrongNode h p told root up here → IsTrieFault e → IsFaultAt here e → IsBroken h p told root at a b e
broken p h told root at a b up here (F.Block id why) on wrong trie is = record {
  up = up;
  on = subst (λ (x : List ℕ). IsOnTree p told root at up x) (sym is) on;
  wrong = subst (λ (y : BlockWhy). IsWrong h p told root a b up id.0 y) (sym trie) (refl, inr (subst (λ (x : List ℕ). IsWrongNode h p told root up x) (sym is) wrong));
}
broken p h told root at a b up here F.Exhausted on wrong trie is = tt
broken p h told root at a b up here F.Store on wrong trie is = tt
broken p h told root at a b up here (F.Clash id kept new) on wrong trie is = tt
broken p h told root at a b up here F.Size on wrong trie is = tt
broken p h told root at a b up here F.NoKey on wrong trie is = tt
broken p h told root at a b up here F.Memory on wrong trie is = tt

fault-here : (v : Walker) (at : List ℕ) (e : HamtFault) → v.at.0 ≡ at → IsFaultAt (walker_here v) e → IsFaultAt (last_of at (way_of v.path.items)) e
fault-here v at e is here = subst (λ (a : List ℕ). IsFaultAt (last_of a (way_of v.path.items)) e) is here

few-broken : (p : HamtShape) (h : List ℕ → List ℕ) (told : Option (List (List ℕ))) (root : List TrieSlot) (at : List ℕ) (a : ℕ) (way : List (List ℕ × ℕ)) (b : ℕ) (todo : List Todo) (given : ℕ) (e : HamtFault) → WalkStands p told root way (leave b ∷ todo) given → given - b ≤ p.bucket
    → IsTrieFault e → IsFaultAt (last_of at way) e → IsBroken h p told root at a a e
few-broken p h told root at a [] b todo given e s few trie here = absurd (root-stays p told root b todo given s)
few-broken p h told root at a (c ∷ way) b todo given e s few trie here =
    let n = at-end p told root c way b todo given s in
    let sum = n.count in
    let long : length (c ∷ way) ≡ length (indices_of (c ∷ way)) = sym (length-map (c ∷ way) (λ (q : List ℕ × ℕ). q.1)) in
    broken p h told root at a a (indices_of (c ∷ way)) c.0 e (on-tree p told root at (c ∷ way) (leave b ∷ todo) given s) (record {
      slots = n.slots;
      node = n.node;
      wrong = inr (inr (record { many = n.many; stands = subst (λ k. SlotsMany (TreeMany p told (trie_levels p - suc k)) n.slots n.many) long n.stands; few = omega arith }));
    }) trie here

-- ---- what the calls keep

pub left-keeps : (p : HamtShape) (told : Option (List (List ℕ))) (v w : Walker) (before : ℕ) (c : Child) → walker_todo v ≡ leave before ∷ walker_todo w → v.path.items ≡ w.path.items ++ c ∷ [] → w.given ≡ v.given → w.at.0 ≡ v.at.0 → StaysOn p told v w
left-keeps p told v w before c todo path given here = λ root at on.
    let long = ap (λ (xs : List Child). length xs) path in
    let more = length-append w.path.items (c ∷ []) in
    let short = on.short in
    let way = way-long w.path.items in
    let s = subst (λ q. WalkStands p told root q (leave before ∷ walker_todo w) v.given) (way-snoc v.path.items w.path.items c path) (stands-at p told root at v (leave before ∷ walker_todo w) todo on) in
    is-on p told root at w (way_of w.path.items) (walker_todo w) v.given (here ∙ on.here) (omega arith) refl refl given (left-stands p told root (c.id.0, c.index) (way_of w.path.items) before (walker_todo w) v.given (omega arith) s)

pub few-keeps : (p : HamtShape) (h : List ℕ → List ℕ) (told : Option (List (List ℕ))) (a : ℕ) (v : Walker) (before : ℕ) (rest : List Todo) (e : HamtFault) → walker_todo v ≡ leave before ∷ rest → v.given - before ≤ p.bucket → IsTrieFault e → IsFaultAt (walker_here v) e
    → FaultOn p h told a a v e v
few-keeps p h told a v before rest e is few trie here = λ root at on.
    (on, few-broken p h told root at a (way_of v.path.items) before rest v.given e (stands-at p told root at v (leave before ∷ rest) is on) few trie (fault-here v at e on.here here))

pub none-keeps : (p : HamtShape) (h : List ℕ → List ℕ) (told : Option (List (List ℕ))) (a : ℕ) (v : Walker) (before : ℕ) (rest : List Todo) (e : HamtFault) → walker_todo v ≡ leave before ∷ rest → length v.path.items ≡ 0 → FaultOn p h told a a v e v
none-keeps p h told a v before rest e is none = λ root at on. absurd (by root v.path.items none (stands-at p told root at v (leave before ∷ rest) is on))
  where
    by : (root : List TrieSlot) (path : List Child) → length path ≡ 0 → WalkStands p told root (way_of path) (leave before ∷ rest) v.given → ⊥
    by root [] none s = root-stays p told root before rest v.given s
    by root (c ∷ path) none s = absurd (omega arith)

pub deep-keeps : (p : HamtShape) (h : List ℕ → List ℕ) (told : Option (List (List ℕ))) (a : ℕ) (v : Walker) (c : Child) (e : HamtFault) → NextIs (enter c.id.0 c.index) v → trie_levels p ≤ suc (length v.path.items) → IsTrieFault e → IsFaultAt (walker_here v) e
    → FaultOn p h told a a v e v
deep-keeps p h told a v c e next deep trie here = λ root at on.
    let s = stands-at p told root at v (enter c.id.0 c.index ∷ next.rest) next.is on in
    let n = at-node p told root at (way_of v.path.items) (enter c.id.0 c.index) next.rest v.given tt s in
    let long = indices-long v.path.items in (
      on,
      broken p h told root at a a (indices_of (way_of v.path.items)) (last_of at (way_of v.path.items)) e (on-tree p told root at (way_of v.path.items) (enter c.id.0 c.index ∷ next.rest) v.given s)
          (record { slots = n.slots; node = n.node; wrong = inr (inl (record { index = c.index; id = c.id.0; stands = enter-there n.slots n.done n.rest c.id.0 c.index n.steps; last = omega arith })) }) trie
          (fault-here v at e on.here here),
    )

pub stray-keeps : (p : HamtShape) (h : List ℕ → List ℕ) (told : Option (List (List ℕ))) (a : ℕ) (v : Walker) (k : List ℕ) (d : Data) (i : ℕ) (rest : List Todo) (e : HamtFault) → walker_todo v ≡ give k d i ∷ rest → fits h p (walker_path v) i k ≡ false → IsTrieFault e → IsFaultAt (walker_here v) e
    → FaultOn p h told a a v e v
stray-keeps p h told a v k d i rest e is misfit trie here = λ root at on.
    let s = stands-at p told root at v (give k d i ∷ rest) is on in
    let n = at-node p told root at (way_of v.path.items) (give k d i) rest v.given tt s in
    let g = give-there n.slots n.done n.rest k d i n.steps in (
      on,
      broken p h told root at a a (indices_of (way_of v.path.items)) (last_of at (way_of v.path.items)) e (on-tree p told root at (way_of v.path.items) (give k d i ∷ rest) v.given s)
          (record {
            slots = n.slots;
            node = n.node;
            wrong = inl (record { index = i; entries = g.entries; stands = g.stands; place = g.among.place; key = k; value = d; is = g.among.is; stray = ap (λ q. fits h p q i k) (indices-path v.path.items) ∙ misfit });
          }) trie (fault-here v at e on.here here),
    )

refused-wrong : (p : HamtShape) (h : List ℕ → List ℕ) (m n : Moment) (root : List TrieSlot) (up id : List ℕ) (why : BlockWhy) → IsRefused p m id why n → IsWrong h p m.blocks root m.lacks n.lacks up id why
refused-wrong p h m n root up id Missing r = r
refused-wrong p h m n root up id (Cbor fault) r = (r.block, record { named = r.at.named; held = r.at.held }, r.wrong)
refused-wrong p h m n root up id (NoNode why) r = (r.wrong.0, inl (record { block = r.block; at = record { named = r.at.named; held = r.at.held }; none = r.wrong.1 }))

pub fetch-keeps : (p : HamtShape) (h : List ℕ → List ℕ) (m n : Moment) (v : Walker) (c : Child) (id : BlockId) (why : BlockWhy) → NextIs (enter c.id.0 c.index) v → id.0 ≡ c.id.0 → IsRefused p m c.id.0 why n → FaultOn p h m.blocks m.lacks n.lacks v (F.Block id why) v
fetch-keeps p h m n v c id why next same r = λ root at on.
    let s = stands-at p m.blocks root at v (enter c.id.0 c.index ∷ next.rest) next.is on in
    let k = at-node p m.blocks root at (way_of v.path.items) (enter c.id.0 c.index) next.rest v.given tt s in
    let up : List ℕ = c.index ∷ indices_of (way_of v.path.items) in (
      on,
      record {
        up = up;
        on = subst (λ (x : List ℕ). IsOnTree p m.blocks root at up x) (sym same) (
          last_of at (way_of v.path.items),
          k.slots,
          on-tree p m.blocks root at (way_of v.path.items) (enter c.id.0 c.index ∷ next.rest) v.given s,
          k.node,
          enter-there k.slots k.done k.rest c.id.0 c.index k.steps,
        );
        wrong = subst (λ (x : List ℕ). IsWrong h p m.blocks root m.lacks n.lacks up x why) (sym same) (refused-wrong p h m n root up c.id.0 why r);
      },
    )

pub entered-keeps : (p : HamtShape) (m n : Moment) (v w : Walker) (c : Child) (steps : List Step) → suc (length v.path.items) < trie_levels p → GotSteps p m c.id.0 steps n → IsEntered v c steps w → StaysOn p m.blocks v w
entered-keeps p m n v w c steps short got e = λ root at on.
    let long = ap (λ (xs : List Child). length xs) e.children in
    let more = length-append v.path.items (c ∷ []) in
    let todo : walker_todo w ≡ node_todo 0 got.has.slots ++ leave v.given ∷ e.rest = e.todo ∙ ap (λ ts. ts ++ leave v.given ∷ e.rest) got.has.todo in
    is-on p m.blocks root at w ((c.id.0, c.index) ∷ way_of v.path.items) (node_todo 0 got.has.slots ++ leave v.given ∷ e.rest) v.given (e.at ∙ on.here) (omega arith) (way-snoc w.path.items v.path.items c e.children) todo e.given
    (enter-stands p m.blocks root (way_of v.path.items) c.id.0 c.index got.has.slots e.rest v.given (record { block = got.block; at = record { named = got.at.named; held = got.at.held }; node = got.has.node })
    (stands-at p m.blocks root at v (enter c.id.0 c.index ∷ e.rest) e.was on))

pub memory-keeps : (p : HamtShape) (h : List ℕ → List ℕ) (told : Option (List (List ℕ))) (a b : ℕ) (v w : Walker) → IsUnchanged v w → FaultOn p h told a b v F.Memory w
memory-keeps p h told a b v w u = λ root at on. (unchanged-on p told root at v w u on, tt)

pub taken-keeps : (p : HamtShape) (h : List ℕ → List ℕ) (told : Option (List (List ℕ))) (a : ℕ) (v w : Walker) (row : Row) → IsTaken v row w → KeepsOn p h told a a v (Ok (Some row)) w
taken-keeps p h told a v w row t = λ root at on. (
  is-on p told root at w (way_of v.path.items) t.rest (v.given + 1) (t.at ∙ on.here) (subst (λ (path : List Child). length path < trie_levels p) (sym t.children) on.short) (ap way_of t.children) t.todo t.given
      (pass p told root (way_of v.path.items) (give row.key t.value t.index) t.rest v.given 1 tt (0, refl, refl) (stands-at p told root at v (give row.key t.value t.index ∷ t.rest) t.was on)),
  tt,
)

pub taken-row : (p : HamtShape) (told : Option (List (List ℕ))) (v w : Walker) (row : Row) → IsTaken v row w → RowStands p told v (Ok (Some row))
taken-row p told v w row t = λ root at on.
    let s = stands-at p told root at v (give row.key t.value t.index ∷ t.rest) t.was on in
    let n = at-node p told root at (way_of v.path.items) (give row.key t.value t.index) t.rest v.given tt s in
    let g = give-there n.slots n.done n.rest row.key t.value t.index n.steps in
    let here : last_of at (way_of v.path.items) ≡ row.block.0 = ap (λ (a : List ℕ). last_of a (way_of v.path.items)) (sym on.here) ∙ sym t.block in
    record {
      up = indices_of (way_of v.path.items);
      on = subst (λ (x : List ℕ). IsOnTree p told root at (indices_of (way_of v.path.items)) x) here (on-tree p told root at (way_of v.path.items) (give row.key t.value t.index ∷ t.rest) v.given s);
      slots = n.slots;
      node = subst (λ (x : List ℕ). HasNode p told root (indices_of (way_of v.path.items)) x n.slots) here n.node;
      index = t.index;
      entries = g.entries;
      stands = g.stands;
      place = g.among.place;
      value = t.value;
      is = g.among.is;
      spelled = t.spelled;
    }

pub new-on : (p : HamtShape) (told : Option (List (List ℕ))) (slots : List TrieSlot) (at : List ℕ) (w : Walker) → walker_todo w ≡ node_todo 0 slots → w.path.items ≡ [] → w.given ≡ 0 → w.at.0 ≡ at → IsOn p told slots at w
new-on p told slots at w todo path given here =
    is-on p told slots at w [] (node_todo 0 slots) 0 here (subst (λ (q : List Child). length q < trie_levels p) (sym path) (let some = levels_some p in omega (arith, some))) (ap way_of path) todo given (record { done = []; steps = refl; gave = refl })
