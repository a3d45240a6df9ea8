-- What the calls of a walker do to what is ahead.
use Rattle.std.proofs.Common.{◌≡◌, ◌↔◌, inl, inr, ℕ, zero, suc, ◌==◌, false, ◌+◌, ◌-◌, ◌<◌, ◌≤◌, List, [], ◌∷◌, ◌++◌, length, map, set, Option, Some, None, refl, sym, ap, ◌∙◌, subst, arith, append_assoc}
use Rattle.std.specs.Prelude.{IsSome, option_to_list, slice_get, reverse, Result, Ok, Err, OnOk}
use Rattle.std.specs.Global.{Vec}
use Rattle.std.proofs.lemmas.List.{map-append, reverse-append, length-append, length-map}
use Rattle.std.proofs.lemmas.Bool.{false≢true}
use Rattle.std.proofs.lemmas.Option.{same_Some}
use Rattle.ild_cbor.proofs.Blocks.{block_again}
use Rattle.ild_cbor.specs.Reading.{fault_of}
use Rattle.ild_cbor.specs.declared.why.BlockWhy.{BlockWhy}
use Rattle.ild_cbor.specs.declared.why.BlockWhy.TheVariants.{Missing, Cbor, Shape as NoNode}
use Rattle.ild_edges.specs.Told.{IfTold}
use Rattle.ild_data.specs.declared.hamt_shape.HamtShape.{HamtShape}
use Rattle.ild_data.specs.Data.{Data}
use Rattle.ild_data.specs.Trie.{TrieSlot, node_data, empty, bucket, child}
use Rattle.ild_data.specs.TrieShape.{trie_levels}
use Rattle.ild_edges.specs.Store.{Moment, block_at}
use Rattle.ild_node_slots.specs.declared.fault.HamtFault.{HamtFault}
use Rattle.ild_node_slots.specs.declared.fault.HamtFault.TheVariants as F
use Rattle.ild_bulk_walker.specs.Gives.{IsNodeOf, TreeGives, SlotsGive}
use Rattle.ild_bulk_walker.specs.Todo.{Todo, enter, leave, slot_todo, node_todo, StillGives}
use Rattle.ild_bulk_walker.specs.Steps.{step_todo, steps_todo, path_of}
use Rattle.ild_bulk_walker.specs.Ahead.{StillAhead, walker_todo, walker_path}
use Rattle.ild_bulk_walker.specs.inside.Stepping.{NextIs, walker_here, IsTrieFault, IsFaultAt, NothingAhead, Leaves, IsPast, IsEntered, IsUnchanged, SameWhere, NothingTold, EntersChild, EnterAnswer, Enters}
use Rattle.ild_bulk_walker.specs.Fetching.{GotSteps, IsRefused, FetchAnswer, Fetches}
use Rattle.ild_bulk_walker.specs.declared.step.Child.{Child}
use Rattle.ild_bulk_walker.specs.declared.step.Step.{Step}
use Rattle.ild_bulk_walker.specs.declared.step.Step.TheVariants as S
use Rattle.ild_bulk_walker.specs.declared.walker.Walker.{Walker}
use Rattle.ild_edges.proofs.Later.{Later-refl}
use Rattle.ild_bulk_walker.proofs.Keeping.{left-keeps, few-keeps, none-keeps, deep-keeps, fetch-keeps, entered-keeps, memory-keeps, keeps-more, FaultOn}
use Rattle.ild_bulk_walker.proofs.OneNode.{same-slots}
use Rattle.ild_bulk_walker.proofs.Spending.{left-passes, left-nodes, passes-itself, spends-none, spends-more, enter-spends, entered-passes, entered-nodes, unchanged-nodes}
use Rattle.ild_bulk_walker.proofs.Resuming.{told-one, holds-one, read-nothing, where-itself}
use Rattle.ild_bulk_walker.proofs.Opening.{slots-on, slots-off, beneath}

-- ---- steps and paths

pub steps-last : (steps front : List Step) (s : Step) → steps ≡ front ++ s ∷ [] → steps_todo steps ≡ step_todo s ∷ steps_todo front
steps-last steps front s is =
    ap steps_todo is ∙ ap reverse (map-append step_todo front (s ∷ [])) ∙ reverse-append (map step_todo front) (step_todo s ∷ [])

last_is : (steps : List Step) (s : Step) → slice_get steps (length steps - 1) ≡ Some s → (front : List Step) × (steps ≡ front ++ s ∷ [])
last_is [] s is = absurd cc
last_is (t ∷ []) s is = ([], ap (λ x. x ∷ []) (same_Some t s is))
last_is (t ∷ u ∷ steps) s is =
    let rest = last_is (u ∷ steps) s (ap (λ n. slice_get (u ∷ steps) n) (less (length steps)) ∙ ap (λ n. slice_get (t ∷ u ∷ steps) n) (sym (more (length steps))) ∙ is) in (t ∷ rest.0, ap (λ xs. t ∷ xs) rest.1)
  where
    less : (n : ℕ) → suc n - 1 ≡ n
    less n = omega arith

    more : (n : ℕ) → suc (suc n) - 1 ≡ suc n
    more n = omega arith

pub next-todo : (steps read : List Step) (s : Step) → read ≡ steps → slice_get read (length read - 1) ≡ Some s → (rest : List Todo) × (steps_todo steps ≡ step_todo s ∷ rest)
next-todo steps read s same is =
    let l = last_is steps s (ap (λ (xs : List Step). slice_get xs (length xs - 1)) (sym same) ∙ is) in (steps_todo l.0, steps-last steps l.0 s l.1)

snoc-same : (xs ys : List ℕ) (x y : ℕ) → xs ++ x ∷ [] ≡ ys ++ y ∷ [] → xs ≡ ys
snoc-same [] [] x y same = refl
snoc-same [] (b ∷ []) x y same = absurd cc
snoc-same [] (b ∷ c ∷ ys) x y same = absurd cc
snoc-same (a ∷ []) [] x y same = absurd cc
snoc-same (a ∷ c ∷ xs) [] x y same = absurd cc
snoc-same (a ∷ xs) (b ∷ ys) x y same = let head : a ≡ b = cc in let tail : xs ++ x ∷ [] ≡ ys ++ y ∷ [] = cc in (λ i. head i ∷ snoc-same xs ys x y tail i)

-- ---- leaving

pub left-one : (p : HamtShape) (v w : Walker) (before : ℕ) (s : Step) (c : Child) → NextIs (leave before) v → v.steps.items ≡ w.steps.items ++ s ∷ [] → v.path.items ≡ w.path.items ++ c ∷ [] → before + p.bucket < v.given → w.given ≡ v.given → w.at.0 ≡ v.at.0
    → Leaves p v (Ok tt) w
left-one p v w before s c next steps path many given here =
    let todo : walker_todo v ≡ step_todo s ∷ walker_todo w = steps-last v.steps.items w.steps.items s steps in
    let same : next.rest ≡ walker_todo w = let both = sym next.is ∙ todo in cc in
    let is : walker_todo v ≡ leave before ∷ walker_todo w = next.is ∙ ap (λ ts. leave before ∷ ts) same in
    let way : walker_path v ≡ walker_path w ++ c.index ∷ [] = ap path_of path ∙ map-append (λ (d : Child). d.index) w.path.items (c ∷ []) in
    record {
      answer = tt;
      same = λ h held es. (
        λ a.
            let g = subst (λ ts. StillGives h p held ts (walker_path v) v.given es) is a.gives in
            let above : g.0 ≡ walker_path w = snoc-same g.0 (walker_path w) g.1 c.index (sym g.2 ∙ way) in
            record { gives = subst (λ q. StillGives h p held (walker_todo w) q w.given es) above (subst (λ n. StillGives h p held (walker_todo w) g.0 n es) (sym given) g.4) },
        λ b.
            record {
              gives = subst (λ ts. StillGives h p held ts (walker_path v) v.given es) (sym is)
                  (walker_path w, c.index, way, many, subst (λ n. StillGives h p held (walker_todo w) (walker_path w) n es) given b.gives);
            },
      );
      given = given;
      path = let long = ap (λ (q : List ℕ). length q) way in let more = length-append (walker_path w) (c.index ∷ []) in omega arith;
      on = λ h told lacks root at on. (left-keeps p told v w before c is path given here root at on, tt);
      reads = λ held gets. left-passes p held gets v w before c is path;
      nodes = left-nodes p v w before c is path;
    }

pub left-few : (p : HamtShape) (v : Walker) (before : ℕ) → NextIs (leave before) v → v.given - before ≤ p.bucket → NothingAhead p v
left-few p v before next few = λ h held es a. let g = subst (λ ts. StillGives h p held ts (walker_path v) v.given es) next.is a.gives in let many = g.3 in omega arith

pub left-none : (p : HamtShape) (v : Walker) (before : ℕ) → NextIs (leave before) v → length v.path.items ≡ 0 → NothingAhead p v
left-none p v before next none = λ h held es a.
    let g = subst (λ ts. StillGives h p held ts (walker_path v) v.given es) next.is a.gives in
    let long = ap (λ (q : List ℕ). length q) g.2 in
    let more = length-append g.0 (g.1 ∷ []) in
    let seen = length-map v.path.items (λ (d : Child). d.index) in
    omega arith

pub some-step : (v : Walker) (t : Todo) → NextIs t v → 0 < length v.steps.items
some-step v t next = by v.steps.items next.is
  where
    by : (steps : List Step) → steps_todo steps ≡ t ∷ next.rest → 0 < length steps
    by [] is = absurd cc
    by (s ∷ steps) is = omega arith

-- the last step and the last child are taken off
pub left-popped : (p : HamtShape) (v w : Walker) (before : ℕ) (s : Option Step) (c : Option Child) → NextIs (leave before) v → v.steps.items ≡ w.steps.items ++ option_to_list s → IsSome s → v.path.items ≡ w.path.items ++ option_to_list c → IsSome c
    → before + p.bucket < v.given → w.given ≡ v.given → w.at.0 ≡ v.at.0 → Leaves p v (Ok tt) w
left-popped p v w before (Some s) (Some c) next steps some path is many given here = left-one p v w before s c next steps path many given here
left-popped p v w before None c next steps some path is many given here = absurd (false≢true some)
left-popped p v w before (Some s) None next steps some path is many given here = absurd (false≢true is)

pub not-empty : (n : ℕ) → (n == 0) ≡ false → 0 < n
not-empty zero is = absurd (false≢true (sym is))
not-empty (suc n) is = omega arith

fault-is : (p : HamtShape) (v : Walker) (e : HamtFault) → IsTrieFault e → NothingAhead p v → ((h : List ℕ → List ℕ) (told : Option (List (List ℕ))) (lacks : ℕ) → FaultOn p h told lacks lacks v e v) → Leaves p v (Err e) v
fault-is p v e trie nothing keeps = record { answer = (trie, nothing); same = λ h held es. (λ a. a, λ a. a); given = refl; path = omega arith; on = keeps; reads = λ held gets. spends-none p held gets v; nodes = λ held n l. l }

-- a node is left too early
pub left-early : (p : HamtShape) (v : Walker) (before : ℕ) (e : HamtFault) → NextIs (leave before) v → v.given - before ≤ p.bucket → IsTrieFault e → IsFaultAt (walker_here v) e → Leaves p v (Err e) v
left-early p v before e next few trie here = fault-is p v e trie (left-few p v before next few) (λ h told lacks. few-keeps p h told lacks v before next.rest e next.is few trie here)

-- the root is left
pub left-root : (p : HamtShape) (v : Walker) (before : ℕ) (e : HamtFault) → NextIs (leave before) v → length v.path.items ≡ 0 → IsTrieFault e → Leaves p v (Err e) v
left-root p v before e next none trie = fault-is p v e trie (left-none p v before next none) (λ h told lacks. none-keeps p h told lacks v before next.rest e next.is none)

pub same-itself : (p : HamtShape) (v : Walker) → Leaves p v (Ok tt) v
same-itself p v = record { answer = tt; same = λ h held es. (λ a. a, λ a. a); given = refl; path = omega arith; on = λ h told lacks root at on. (on, tt); reads = λ held gets. passes-itself p held gets v; nodes = λ held n l. l }

pub left-more : (p : HamtShape) (u v w : Walker) (r : Result (Unit {0}) HamtFault) → Leaves p u (Ok tt) v → Leaves p v r w → Leaves p u r w
left-more p u v w (Ok x) a b = record {
  answer = tt;
  same = λ h held es. (λ s. (b.same h held es).0 ((a.same h held es).0 s), λ s. (a.same h held es).1 ((b.same h held es).1 s));
  given = b.given ∙ a.given;
  path = let y = a.path in let q = b.path in omega arith;
  on = λ h told lacks. keeps-more p h told lacks lacks lacks u v w (Ok x) (omega arith) (λ root at on. (a.on h told lacks root at on).0) (b.on h told lacks);
  reads = λ held gets. spends-more p held gets gets gets u v w (Ok x) (a.reads held gets) (b.reads held gets);
  nodes = λ held n l. b.nodes held n (a.nodes held n l);
}
left-more p u v w (Err e) a b = record {
  answer = (b.answer.0, λ h held es s. b.answer.1 h held es ((a.same h held es).0 s));
  same = λ h held es. (λ s. (b.same h held es).0 ((a.same h held es).0 s), λ s. (a.same h held es).1 ((b.same h held es).1 s));
  given = b.given ∙ a.given;
  path = let y = a.path in let q = b.path in omega arith;
  on = λ h told lacks root at on. let y = b.on h told lacks root at (a.on h told lacks root at on).0 in (y.0, y.1);
  reads = λ held gets n l. let y = a.reads held gets n l in let q = b.reads held gets y.left y.nodes in let one = y.gets in omega arith;
  nodes = λ held n l. b.nodes held n (a.nodes held n l);
}

-- ---- entering

slot-past : (given i : ℕ) (s : TrieSlot) (todo : List Todo) → IsPast given todo → IsPast given (slot_todo i s ++ todo)
slot-past given i empty todo past = past
slot-past given i (bucket []) todo past = past
slot-past given i (bucket (e ∷ es)) todo past = tt
slot-past given i (child id) todo past = tt

node-past : (given i : ℕ) (slots : List TrieSlot) (todo : List Todo) → IsPast given todo → IsPast given (node_todo i slots ++ todo)
node-past given i [] todo past = past
node-past given i (s ∷ slots) todo past =
    subst (IsPast given) (sym (append_assoc (slot_todo i s) (node_todo (i + 1) slots) todo)) (slot-past given i s (node_todo (i + 1) slots ++ todo) (node-past given (i + 1) slots todo past))

-- the trees beneath, at the next level
below-is : (p : HamtShape) (h : List ℕ → List ℕ) (held : List (List ℕ)) (path : List ℕ) (i : ℕ) → suc (length path) < trie_levels p → beneath h p held (path ++ i ∷ []) ≡ TreeGives h p held (trie_levels p - suc (suc (length path))) (suc (length path) + 1)
below-is p h held path i short =
    let long : length (path ++ i ∷ []) ≡ suc (length path) = length-append path (i ∷ []) ∙ next (length path) in
    ap (λ n. TreeGives h p held (trie_levels p - suc n) (suc n)) long ∙ ap (TreeGives h p held (trie_levels p - suc (suc (length path)))) (more (suc (length path)))
  where
    next : (n : ℕ) → n + 1 ≡ suc n
    next n = omega arith

    more : (n : ℕ) → suc n ≡ n + 1
    more n = omega arith

one-left : (p : HamtShape) (path : List ℕ) → suc (length path) < trie_levels p → trie_levels p - suc (length path) ≡ suc (trie_levels p - suc (suc (length path)))
one-left p path short = omega arith

-- the tree of a child whose block is held
pub record ChildGives (p : HamtShape) (h : List ℕ → List ℕ) (held : List (List ℕ)) (path : List ℕ) (i : ℕ) (slots : List TrieSlot) (es : List (List ℕ × Data)) : Type 0 where
  pub many : p.bucket < length es
  pub gives : SlotsGive h p (suc (length path)) 0 (beneath h p held (path ++ i ∷ [])) slots es

child-on : (p : HamtShape) (h : List ℕ → List ℕ) (held : List (List ℕ)) (path : List ℕ) (i : ℕ) (id block : List ℕ) (slots : List TrieSlot) (es : List (List ℕ × Data)) → suc (length path) < trie_levels p → block_at held id ≡ Some block → IsNodeOf p block slots
    → beneath h p held path id es → ChildGives p h held path i slots es
child-on p h held path i id block slots es short here node tree =
    let n = subst (λ left. TreeGives h p held left (suc (length path)) id es) (one-left p path short) tree in
    let same : n.block ≡ block = same_Some n.block block (sym n.here ∙ here) in
    let alike : n.slots ≡ slots = same-slots p n.slots slots block (subst (λ b. IsNodeOf p b n.slots) same n.node) node in
    record {
      many = n.many;
      gives = subst (λ f. SlotsGive h p (suc (length path)) 0 f slots es) (sym (below-is p h held path i short))
          (subst (λ ss. SlotsGive h p (suc (length path)) 0 (TreeGives h p held (trie_levels p - suc (suc (length path))) (suc (length path) + 1)) ss es) alike n.gives);
    }

child-off : (p : HamtShape) (h : List ℕ → List ℕ) (held : List (List ℕ)) (path : List ℕ) (i : ℕ) (id block : List ℕ) (slots : List TrieSlot) (es : List (List ℕ × Data)) → suc (length path) < trie_levels p → block_at held id ≡ Some block → IsNodeOf p block slots
    → ChildGives p h held path i slots es → beneath h p held path id es
child-off p h held path i id block slots es short here node c =
    subst (λ left. TreeGives h p held left (suc (length path)) id es) (sym (one-left p path short)) (record {
      block = block;
      slots = slots;
      here = here;
      node = node;
      many = c.many;
      gives = subst (λ f. SlotsGive h p (suc (length path)) 0 f slots es) (below-is p h held path i short) c.gives;
    })

-- once a child is entered the same is ahead
entered-on : (p : HamtShape) (h : List ℕ → List ℕ) (held : List (List ℕ)) (path : List ℕ) (i given : ℕ) (id block : List ℕ) (slots : List TrieSlot) (rest : List Todo) (es : List (List ℕ × Data)) → suc (length path) < trie_levels p → block_at held id ≡ Some block → IsNodeOf p block slots
    → StillGives h p held (enter id i ∷ rest) path given es → StillGives h p held (node_todo 0 slots ++ leave given ∷ rest) (path ++ i ∷ []) given es
entered-on p h held path i given id block slots rest es short here node g =
    let c = child-on p h held path i id block slots g.0 short here node g.4 in
    let many = c.many in
    subst (λ xs. StillGives h p held (node_todo 0 slots ++ leave given ∷ rest) (path ++ i ∷ []) given xs) (sym g.2)
    (slots-on h p held path i 0 (leave given ∷ rest) given slots g.0 g.1 g.3 c.gives (path, i, refl, omega arith, g.5))

entered-off : (p : HamtShape) (h : List ℕ → List ℕ) (held : List (List ℕ)) (path : List ℕ) (i given : ℕ) (id block : List ℕ) (slots : List TrieSlot) (rest : List Todo) (es : List (List ℕ × Data)) → suc (length path) < trie_levels p → block_at held id ≡ Some block → IsNodeOf p block slots
    → StillGives h p held (node_todo 0 slots ++ leave given ∷ rest) (path ++ i ∷ []) given es → StillGives h p held (enter id i ∷ rest) path given es
entered-off p h held path i given id block slots rest es short here node g =
    let r = slots-off h p held path i 0 (leave given ∷ rest) given slots es g in
    let l = r.parts.rest in
    let above : l.0 ≡ path = sym (snoc-same path l.0 i l.1 l.2) in
    let many = l.3 in (
      r.here,
      r.parts.more,
      r.parts.is,
      r.fit,
      child-off p h held path i id block slots r.here short here node (record { many = omega arith; gives = r.gives }),
      subst (λ q. StillGives h p held rest q (given + length r.here) r.parts.more) above l.4,
    )

told-held : (m : Moment) (held : List (List ℕ)) (id block : List ℕ) → IfTold m.blocks (λ bs. block_at bs id ≡ Some block) → m.blocks ≡ Some held → block_at held id ≡ Some block
told-held m held id block told is = subst (λ o. IfTold o (λ bs. block_at bs id ≡ Some block)) is told

entered-still : (p : HamtShape) (m n : Moment) (v w : Walker) (c : Child) (steps : List Step) → suc (length (walker_path v)) < trie_levels p → (got : GotSteps p m c.id.0 steps n) → IsEntered v c steps w
    → (h : List ℕ → List ℕ) (held : List (List ℕ)) (es : List (List ℕ × Data)) → block_at held c.id.0 ≡ Some got.block → StillAhead h p held v es ↔ StillAhead h p held w es
entered-still p m n v w c steps short got e = λ h held es here.
    let todo : walker_todo w ≡ node_todo 0 got.has.slots ++ leave v.given ∷ e.rest = e.todo ∙ ap (λ ts. ts ++ leave v.given ∷ e.rest) got.has.todo in (
      λ a. record {
        gives = subst (λ ts. StillGives h p held ts (walker_path w) w.given es) (sym todo)
            (subst (λ q. StillGives h p held (node_todo 0 got.has.slots ++ leave v.given ∷ e.rest) q w.given es) (sym e.path)
            (subst (λ n. StillGives h p held (node_todo 0 got.has.slots ++ leave v.given ∷ e.rest) (walker_path v ++ c.index ∷ []) n es) (sym e.given)
            (entered-on p h held (walker_path v) c.index v.given c.id.0 got.block got.has.slots e.rest es short here got.has.node
            (subst (λ ts. StillGives h p held ts (walker_path v) v.given es) e.was a.gives))));
      },
      λ b. record {
        gives = subst (λ ts. StillGives h p held ts (walker_path v) v.given es) (sym e.was)
            (entered-off p h held (walker_path v) c.index v.given c.id.0 got.block got.has.slots e.rest es short here got.has.node
            (subst (λ n. StillGives h p held (node_todo 0 got.has.slots ++ leave v.given ∷ e.rest) (walker_path v ++ c.index ∷ []) n es) e.given
            (subst (λ q. StillGives h p held (node_todo 0 got.has.slots ++ leave v.given ∷ e.rest) q w.given es) e.path
            (subst (λ ts. StillGives h p held ts (walker_path w) w.given es) todo b.gives))));
      },
    )

-- over every store: wherever the block is held that was got
entered-where : (p : HamtShape) (m n : Moment) (v w : Walker) (c : Child) (steps : List Step) → suc (length (walker_path v)) < trie_levels p → (got : GotSteps p m c.id.0 steps n) → IsEntered v c steps w → SameWhere p (got.block ∷ []) v w
entered-where p m n v w c steps short got e = λ h held es all. entered-still p m n v w c steps short got e h held es (holds-one held c.id.0 got.block got.at.named all)

pub unchanged-still : (p : HamtShape) (v w : Walker) → IsUnchanged v w → (h : List ℕ → List ℕ) (held : List (List ℕ)) (es : List (List ℕ × Data)) → StillAhead h p held v es ↔ StillAhead h p held w es
unchanged-still p v w u = λ h held es. (
  λ a. record {
    gives = subst (λ ts. StillGives h p held ts (walker_path w) w.given es) (sym u.todo)
        (subst (λ q. StillGives h p held (walker_todo v) q w.given es) (sym u.path) (subst (λ n. StillGives h p held (walker_todo v) (walker_path v) n es) (sym u.given) a.gives));
  },
  λ b. record {
    gives = subst (λ n. StillGives h p held (walker_todo v) (walker_path v) n es) u.given
        (subst (λ q. StillGives h p held (walker_todo v) q w.given es) u.path (subst (λ ts. StillGives h p held ts (walker_path w) w.given es) u.todo b.gives));
  },
)

-- a child for which no level is left
pub entered-deep : (p : HamtShape) (m : Moment) (v : Walker) (c : Child) → NextIs (enter c.id.0 c.index) v → trie_levels p ≤ suc (length (walker_path v)) → NothingTold p m v
entered-deep p m v c next deep = λ h held es told a.
    let g = subst (λ ts. StillGives h p held ts (walker_path v) v.given es) next.is a.gives in
    let none : trie_levels p - suc (length (walker_path v)) ≡ 0 = omega arith in
    subst (λ left. TreeGives h p held left (suc (length (walker_path v))) c.id.0 g.0) none g.4

-- a child that is refused
refused : (p : HamtShape) (m n : Moment) (held : List (List ℕ)) (id block : List ℕ) (why : BlockWhy) (slots : List TrieSlot) → m.blocks ≡ Some held → block_at held id ≡ Some block → IsNodeOf p block slots → IsRefused p m id why n → ⊥
refused p m n held id block Missing slots told here node r = let none : None ≡ Some block = sym (told-none m held id r.0 told) ∙ here in cc
  where
    told-none : (m : Moment) (held : List (List ℕ)) (id : List ℕ) → IfTold m.blocks (λ bs. block_at bs id ≡ None) → m.blocks ≡ Some held → block_at held id ≡ None
    told-none m held id gone is = subst (λ o. IfTold o (λ bs. block_at bs id ≡ None)) is gone
refused p m n held id block (Cbor fault) slots told here node r =
    let same : r.block ≡ block = same_Some r.block block (sym (told-held m held id r.block r.at.held told) ∙ here) in
    let none : Some fault ≡ None = sym r.wrong ∙ ap fault_of same ∙ block_again block (node_data slots) node.is in cc
refused p m n held id block (NoNode why) slots told here node r =
    let same : r.block ≡ block = same_Some r.block block (sym (told-held m held id r.block r.at.held told) ∙ here) in
    r.wrong.1 slots (subst (λ b. IsNodeOf p b slots) (sym same) node)

pub entered-refused : (p : HamtShape) (m n : Moment) (v : Walker) (c : Child) (why : BlockWhy) → NextIs (enter c.id.0 c.index) v → suc (length (walker_path v)) < trie_levels p → IsRefused p m c.id.0 why n → NothingTold p m v
entered-refused p m n v c why next short r = λ h held es told a.
    let g = subst (λ ts. StillGives h p held ts (walker_path v) v.given es) next.is a.gives in
    let t = subst (λ left. TreeGives h p held left (suc (length (walker_path v))) c.id.0 g.0) (one-left p (walker_path v) short) g.4 in
    refused p m n held c.id.0 t.block why t.slots told t.here t.node r

pub entered-past : (p : HamtShape) (m n : Moment) (v w : Walker) (c : Child) (steps : List Step) → GotSteps p m c.id.0 steps n → IsEntered v c steps w → IsPast w.given (walker_todo w)
entered-past p m n v w c steps got e =
    subst (IsPast w.given) (sym (e.todo ∙ ap (λ ts. ts ++ leave v.given ∷ e.rest) got.has.todo))
    (node-past w.given 0 got.has.slots (leave v.given ∷ e.rest) (let same = e.given in omega arith))

-- ---- steps that are opened

snoc-of : (steps : List Step) → 0 < length steps → (front : List Step) × (s : Step) × (steps ≡ front ++ s ∷ [])
snoc-of [] lt = absurd (omega arith)
snoc-of (s ∷ []) lt = ([], s, refl)
snoc-of (s ∷ t ∷ steps) lt = let r = snoc-of (t ∷ steps) (omega arith) in (s ∷ r.0, r.1, ap (λ xs. s ∷ xs) r.2)

set-at : (front more : List Step) (s x : Step) → set ((front ++ s ∷ []) ++ more) (length front) x ≡ (front ++ x ∷ []) ++ more
set-at [] more s x = refl
set-at (f ∷ front) more s x = ap (λ xs. f ∷ xs) (set-at front more s x)

pub opened : (v w : Walker) (c : Child) (steps : List Step) (at : ℕ) → NextIs (enter c.id.0 c.index) v → w.steps.items ≡ set (v.steps.items ++ steps) at (S.Leave v.given) → at + 1 ≡ length v.steps.items → w.path.items ≡ v.path.items ++ c ∷ [] → w.given ≡ v.given → w.at.0 ≡ v.at.0
    → IsEntered v c steps w
opened v w c steps at next is place path given same-at =
    let o = snoc-of v.steps.items (some-step v (enter c.id.0 c.index) next) in
    let front : List Step = o.0 in
    let last : Step = o.1 in
    let long = ap (λ (xs : List Step). length xs) o.2 in
    let more = length-append front (last ∷ []) in
    let here : at ≡ length front = omega arith in
    let todo : walker_todo v ≡ step_todo last ∷ steps_todo front = steps-last v.steps.items front last o.2 in
    let same : next.rest ≡ steps_todo front = let both = sym next.is ∙ todo in cc in
    let items : w.steps.items ≡ (front ++ S.Leave v.given ∷ []) ++ steps = is ∙ ap (λ xs. set (xs ++ steps) at (S.Leave v.given)) o.2 ∙ ap (λ n. set ((front ++ last ∷ []) ++ steps) n (S.Leave v.given)) here ∙ set-at front steps last (S.Leave v.given) in
    record {
      rest = next.rest;
      was = next.is;
      todo = ap steps_todo items ∙ ap reverse (map-append step_todo (front ++ S.Leave v.given ∷ []) steps) ∙ reverse-append (map step_todo (front ++ S.Leave v.given ∷ [])) (map step_todo steps)
          ∙ ap (λ ts. steps_todo steps ++ ts) (steps-last (front ++ S.Leave v.given ∷ []) front (S.Leave v.given) refl ∙ ap (λ ts. leave v.given ∷ ts) (sym same));
      path = ap path_of path ∙ map-append (λ (d : Child). d.index) v.path.items (c ∷ []);
      given = given;
      children = path;
      at = same-at;
    }

-- ---- how entering ends

pub enter-stopped : (p : HamtShape) (m n : Moment) (v : Walker) (c : Child) (e : HamtFault) → NextIs (enter c.id.0 c.index) v → suc (length (walker_path v)) < trie_levels p → Fetches p m c.id.0 (Err e) n → Enters p 1 m v (Err e) v n
enter-stopped p m n v c e next short f = record {
  answer = by e f.answer;
  given = refl;
  short = omega arith;
  only = f.only;
  on = λ h. keeps h e f.answer;
  reads = λ held told. enter-spends p held m.gets n.gets v c next (let seen = length-map v.path.items (λ (d : Child). d.index) in omega arith) f.only.gets;
  read = read-nothing p (λ blocks. SameWhere p blocks v v) 1 m n v v f.only.gets (λ held n l. l) (where-itself p v);
}
  where
    keeps : (h : List ℕ → List ℕ) (e : HamtFault) → FetchAnswer p m c.id.0 (Err e) n → FaultOn p h m.blocks m.lacks n.lacks v e v
    keeps h (F.Block i why) r = fetch-keeps p h m n v c i why next r.0 r.1
    keeps h F.Exhausted r = absurd r
    keeps h F.Store r = λ root at on. (on, tt)
    keeps h (F.Clash i kept new) r = absurd r
    keeps h F.Size r = absurd r
    keeps h F.NoKey r = absurd r
    keeps h F.Memory r = λ root at on. (on, tt)

    by : (e : HamtFault) → FetchAnswer p m c.id.0 (Err e) n → EnterAnswer p m v (Err e) v n
    by (F.Block i why) r = (inl (subst (λ (x : List ℕ). IsRefused p m x why n) (sym r.0) r.1), entered-refused p m n v c why next short r.1)
    by F.Exhausted r = absurd r
    by F.Store r = r
    by (F.Clash i kept new) r = absurd r
    by F.Size r = absurd r
    by F.NoKey r = absurd r
    by F.Memory r = tt

path-longer : (v w : Walker) (c : Child) → walker_path w ≡ walker_path v ++ c.index ∷ [] → length (walker_path w) ≡ length (walker_path v) + 1
path-longer v w c is = ap (λ (q : List ℕ). length q) is ∙ length-append (walker_path v) (c.index ∷ [])

pub enter-done : (p : HamtShape) (m n : Moment) (v w : Walker) (c : Child) (steps : Vec Step) (r : Result (Unit {0}) HamtFault) → NextIs (enter c.id.0 c.index) v → suc (length (walker_path v)) < trie_levels p → Fetches p m c.id.0 (Ok steps) n → EntersChild v c steps.items r w → Enters p 1 m v r w n
enter-done p m n v w c steps (Ok u) next short f o = record {
  answer = entered-past p m n v w c steps.items f.answer o;
  given = o.given;
  short = let long = path-longer v w c o.path in omega arith;
  only = f.only;
  on = λ h root at on. (entered-keeps p m n v w c steps.items (let seen = length-map v.path.items (λ (d : Child). d.index) in omega arith) f.answer o root at on, tt);
  reads = λ held told. entered-passes p m n held m.gets n.gets v w c steps.items told (let seen = length-map v.path.items (λ (d : Child). d.index) in omega arith) f.only.gets f.answer o;
  read = record {
    blocks = f.answer.block ∷ [];
    bytes = (f.answer.has.bytes, tt);
    nodes = ((f.answer.has.slots, f.answer.has.node), tt);
    got = (f.answer.got, tt);
    held = told-one m.blocks c.id.0 f.answer.block f.answer.at.named f.answer.at.held;
    gets = let one = f.only.gets in omega arith;
    left = λ held k all l. entered-nodes p m n held v w c steps.items (let seen = length-map v.path.items (λ (d : Child). d.index) in omega arith) f.answer (holds-one held c.id.0 f.answer.block f.answer.at.named all) o k l;
    says = entered-where p m n v w c steps.items short f.answer o;
  };
}
enter-done p m n v w c steps (Err F.Memory) next short f o = record {
  answer = tt;
  given = o.given;
  short = let long = ap (λ (q : List ℕ). length q) o.path in omega arith;
  only = f.only;
  on = λ h. memory-keeps p h m.blocks m.lacks n.lacks v w o;
  reads = λ held told. enter-spends p held m.gets n.gets v c next (let seen = length-map v.path.items (λ (d : Child). d.index) in omega arith) f.only.gets;
  read = read-nothing p (λ blocks. SameWhere p blocks v w) 1 m n v w f.only.gets (unchanged-nodes p v w o) (λ h held es all. unchanged-still p v w o h held es);
}
enter-done p m n v w c steps (Err F.Exhausted) next short f o = absurd o
enter-done p m n v w c steps (Err (F.Block i why)) next short f o = absurd o
enter-done p m n v w c steps (Err F.Store) next short f o = absurd o
enter-done p m n v w c steps (Err (F.Clash i kept new)) next short f o = absurd o
enter-done p m n v w c steps (Err F.Size) next short f o = absurd o
enter-done p m n v w c steps (Err F.NoKey) next short f o = absurd o

-- no level is left
pub enter-deep : (p : HamtShape) (m : Moment) (v : Walker) (c : Child) (e : HamtFault) → NextIs (enter c.id.0 c.index) v → length (walker_path v) < trie_levels p → trie_levels p ≤ suc (length v.path.items) → IsTrieFault e → IsFaultAt (walker_here v) e → Enters p 1 m v (Err e) v m
enter-deep p m v c e next short deep trie here = record {
  answer = by e trie;
  given = refl;
  short = short;
  only = record { later = Later-refl m; blocks = refl; given = refl; puts = refl; gets = omega arith };
  on = λ h. deep-keeps p h m.blocks m.lacks v c e next deep trie here;
  reads = λ held told. spends-none p held m.gets v;
  read = read-nothing p (λ blocks. SameWhere p blocks v v) 1 m m v v (omega arith) (λ held n l. l) (where-itself p v);
}
  where
    nothing : NothingTold p m v
    nothing = entered-deep p m v c next (let seen = length-map v.path.items (λ (d : Child). d.index) in omega arith)

    by : (e : HamtFault) → IsTrieFault e → EnterAnswer p m v (Err e) v m
    by (F.Block i why) t = (inr t, nothing)
    by F.Exhausted t = absurd t
    by F.Store t = absurd t
    by (F.Clash i kept new) t = absurd t
    by F.Size t = absurd t
    by F.NoKey t = absurd t
    by F.Memory t = absurd t

pub enter-longer : (v w : Walker) (c : Child) (steps : Vec Step) (r : Result (Unit {0}) HamtFault) → EntersChild v c steps.items r w → OnOk r (length (walker_path w) ≡ length (walker_path v) + 1)
enter-longer v w c steps (Ok u) o = path-longer v w c o.path
enter-longer v w c steps (Err e) o = tt
