-- That a chain of trees is one of linked trees.
use Rattle.std.proofs.Common.{◌≡◌, ◌⊎◌, inl, inr, ⊎_elim, ℕ, ◌+◌, ◌-◌, ◌^◌, ◌≤◌, ◌<◌, min, Bool, true, false, cond, List, [], ◌∷◌, ◌++◌, ◌&&◌, Option, Some, None, IsSome, Contains, Result, Ok, Err, refl, sym, ap, ◌∙◌, subst, arith}
use Rattle.std.proofs.Math.Logic.{∥∥₁_elim}
use Rattle.std.proofs.Props.{props}
use Rattle.std.specs.Cmp.Lexicographic.{nat_list_eq_equiv}
use Rattle.std.proofs.lemmas.Option.{same_Some, none-some}
use Rattle.ild_data.specs.Key.{same_text}
use Rattle.ild_data.specs.Spell.{id_of}
use Rattle.ild_data.specs.declared.id.BlockId.{BlockId}
use Rattle.ild_edges.specs.Count.{Rose}
use Rattle.ild_edges.specs.Store.{Moment, Later, block_at}
use Rattle.ild_edges.specs.Told.{IfTold, BothTold}
use Rattle.ild_edges.proofs.Later.{Later-refl, Later-trans}
use Rattle.ild_links.proofs.Linking.{before}
use Rattle.ild_schema.specs.declared.number.TypeNo.{TypeNo}
use Rattle.ild_edges.specs.Gained.{CameWhole, IsWhole}
use Rattle.ild_links.specs.Relinks.{HasLink, IsSet, Clashes, OfValue, Relinks, RelinkAnswer, set_in}
use Rattle.ild_links.specs.Stops.{Stops}
use Rattle.ild_links.specs.Trees.{Tree, Stands, followed, tree_of}
use Rattle.ild_links.specs.declared.error.TreeErr.{TreeErr}
use Rattle.ild_links.specs.declared.error.TreeErr.TheVariants as E
use Rattle.ild_links.specs.declared.hop.Hop.{Hop}
use Rattle.ild_links.specs.declared.hop.Stop.{Stop}
use Rattle.ild_links_tests.specs.Chain.{has_link, is_named, name_of, chain_link, chain_meaning, StopsIn}
use Rattle.ild_links_tests.specs.ChainState.{Fetches, Places, with_lacks}
use Rattle.ild_links_tests.proofs.Placing.{beneath_up}

-- each block can be a tree's
abbrev pub Any : Bool → TypeNo → List ℕ → Type 0
Any first ty v = Unit {0}

told_at : (o : Option (List (List ℕ))) (held : List (List ℕ)) (P : List (List ℕ) → Type 0) → o ≡ Some held → IfTold o P → P held
told_at None held P told t = absurd (none-some held told)
told_at (Some a) held P told t = subst P (same_Some a held told) t

both_at : (o p : Option (List (List ℕ))) (was now : List (List ℕ)) (P : List (List ℕ) → List (List ℕ) → Type 0) → o ≡ Some was → p ≡ Some now → BothTold o p P → P was now
both_at None p was now P told is t = absurd (none-some was told)
both_at (Some a) None was now P told is t = absurd (none-some now is)
both_at (Some a) (Some b) was now P told is t = subst (λ (x : List (List ℕ)). P x now) (same_Some a was told) (subst (λ (x : List (List ℕ)). P a x) (same_Some b now is) t)

rose_on : (a b c : ℕ) → a ≤ b → Rose b c → Rose a c
rose_on a b c p q = let s : min (b + 1) (2 ^ 64 - 1) ≤ c = q in omega arith

-- what is held at first is held in a later content
pub held_on : (m k n : Moment) (id b : List ℕ) → k.blocks ≡ m.blocks → Later (with_lacks k 0) (with_lacks n 0) → ((held : List (List ℕ)) → m.blocks ≡ Some held → block_at held id ≡ Some b) → (held : List (List ℕ)) → n.blocks ≡ Some held → block_at held id ≡ Some b
held_on m k n id b same later at held told = let w = before (with_lacks k 0) (with_lacks n 0) held later told in w.keeps id b (at w.was (sym same ∙ w.told))

module _ (first : List ℕ) where
  abbrev pub StandsAs : List (List ℕ) → Tree → List ℕ → Type 0
  StandsAs held t v = Stands Any (chain_meaning first) held t v

  -- the block under the tree's id is the one value that stands for it
  pub stands_held : (held : List (List ℕ)) (t : Tree) (b : List ℕ) → id_of b ≡ t.id → block_at held t.id ≡ Some b → StandsAs held t b
  stands_held held t b is at = record { storable = tt; root = sym is; all = (ap (block_at held) is ∙ at, tt) }

  held_stands : (held : List (List ℕ)) (t : Tree) (b v : List ℕ) → block_at held t.id ≡ Some b → StandsAs held t v → b ≡ v
  held_stands held t b v at s = same_Some b v (sym at ∙ ap (block_at held) s.root ∙ s.all.0)

  pub chain_stops : (m n : Moment) (t : Tree) (path : List (List ℕ)) (from : ℕ) (b : List ℕ) (s : Stop) (upto : ℕ) → Fetches m t.id (Ok b) n → StopsIn first b path from s upto → Stops Any (chain_meaning first) m t path from (Ok (s, upto)) n
  chain_stops m n t path from b s upto f stops =
      let at : (held : List (List ℕ)) → m.blocks ≡ Some held → block_at held t.id ≡ Some b = λ held told. told_at m.blocks held (λ h. block_at h t.id ≡ Some b) told f.answer.1 in record {
        answer = (
          stops.placed,
          λ held told. record {
            there = (λ none. none b (stands_held held t b f.answer.0 (at held told)), λ later_one. record { value = b; stands = stands_held held t b f.answer.0 (at held told) });
            link = λ v st. (subst (λ (x : List ℕ). StopsIn first x path from s upto) (held_stands held t b v (at held told) st) stops).link t.ty;
            place = λ v st. (subst (λ (x : List ℕ). StopsIn first x path from s upto) (held_stands held t b v (at held told) st) stops).place t.ty;
          },
        );
        later = f.later;
        blocks = f.blocks;
        puts = f.puts;
        gets = λ held v told st. let up = f.gets in omega arith;
      }

  -- the first tree, whose block is kept
  pub chain_stops_open : (m : Moment) (t : Tree) (path : List (List ℕ)) (from : ℕ) (b : List ℕ) (s : Stop) (upto : ℕ) → t.id ≡ first → id_of b ≡ first → ((held : List (List ℕ)) → m.blocks ≡ Some held → block_at held first ≡ Some b) → StopsIn first b path from s upto
      → Stops Any (chain_meaning first) m t path from (Ok (s, upto)) m
  chain_stops_open m t path from b s upto is named held stops = chain_stops m m t path from b s upto (record {
    answer = (named ∙ sym is, if_told m.blocks (λ h told. subst (λ (x : List ℕ). block_at h x ≡ Some b) (sym is) (held h told)));
    later = Later-refl m;
    blocks = refl;
    puts = refl;
    gets = omega arith;
  }) stops
    where
      if_told : (o : Option (List (List ℕ))) {P : List (List ℕ) → Type 0} → ((h : List (List ℕ)) → o ≡ Some h → P h) → IfTold o P
      if_told None f = tt
      if_told (Some h) f = f h refl

  -- ---- links

  and_left : (a b : Bool) → a && b ≡ true → a ≡ true
  and_left true b is = refl
  and_left false b is = is

  some_by : (b : Bool) (l : TypeNo × List ℕ) → IsSome (cond b (Some l) None) → b ≡ true
  some_by true l some = refl
  some_by false l some = cc some

  linked_has : (ty : TypeNo) (v : List ℕ) (path : List (List ℕ)) → IsSome (chain_link ty v path) → has_link v ≡ true
  linked_has ty v [] some = cc some
  linked_has ty v (s ∷ []) some = and_left (has_link v) (same_text (name_of v) s) (some_by (is_named v s) _ some)
  linked_has ty v (s ∷ t ∷ ss) some = cc some

  linked_block : (m : Moment) (hop : Hop) (path : List (List ℕ)) (b : List ℕ) (held : List (List ℕ)) → ((held : List (List ℕ)) → m.blocks ≡ Some held → ∥ HasLink Any (chain_meaning first) held path hop ∥₁) → m.blocks ≡ Some held → block_at held hop.id.0 ≡ Some b → has_link b ≡ true
  linked_block m hop path b held link told at =
      ∥∥₁_elim (link held told) (hlevel props)
      (λ l. subst (λ (x : List ℕ). has_link x ≡ true) (sym (held_stands held (tree_of hop) b l.value at l.stands)) (linked_has hop.ty l.value (followed path hop) l.link))

  -- the block has no link, and the tree's value would have one: so the content isn't told
  pub chain_unlinked : (m s : Moment) (l up : ℕ) (hop : Hop) (path : List (List ℕ)) (new b : List ℕ) → ((held : List (List ℕ)) → m.blocks ≡ Some held → ∥ HasLink Any (chain_meaning first) held path hop ∥₁) → Fetches m hop.id.0 (Ok b) (with_lacks s l) → has_link b ≡ false
      → l < 2 ^ 64 → up ≡ min (l + 1) (2 ^ 64 - 1) → Relinks Any (chain_meaning first) m path hop new (Err (E.Block hop.id)) (with_lacks s up)
  chain_unlinked m s l up hop path new b link f none fits is =
      let at : (held : List (List ℕ)) → m.blocks ≡ Some held → block_at held hop.id.0 ≡ Some b = λ held told. told_at m.blocks held (λ h. block_at h hop.id.0 ≡ Some b) told f.answer.1 in
      let never : (held : List (List ℕ)) → m.blocks ≡ Some held → ⊥ = λ held told. let yes_link : has_link b ≡ true = linked_block m hop path b held link told (at held told) in absurd (cc (sym none ∙ yes_link)) in
      let grew : m.lacks ≤ l = f.later.lacks in
      let later : Later m (with_lacks s up) = record { keeps = f.later.keeps; given = f.later.given; gets = f.later.gets; puts = f.later.puts; lacks = omega arith; faults = f.later.faults; beneath = beneath_up m s l up f.later.beneath } in record {
        answer = ((refl, λ held told. absurd (never held told)), λ untold. omega arith);
        later = later;
        whole = λ was now v told now_is st. absurd (never was told);
        gets = λ was now v told now_is st. absurd (never was told);
        puts = λ was now v told now_is st. absurd (never was told);
      }

  -- ---- the block with its link set is put

  module _ (m k n : Moment) (hop : Hop) (path : List (List ℕ)) (new b : List ℕ) (f : Fetches m hop.id.0 (Ok b) k) where
    abbrev Block : List ℕ
    Block = name_of b ++ new

    at_block : (held : List (List ℕ)) → m.blocks ≡ Some held → block_at held hop.id.0 ≡ Some b
    at_block held told = told_at m.blocks held (λ h. block_at h hop.id.0 ≡ Some b) told f.answer.1

    -- of the block that was read, for each value that stands for the tree
    of_block : (P : List ℕ → List (List ℕ) → List (List ℕ) → Type 0) → ((was now : List (List ℕ)) → k.blocks ≡ Some was → n.blocks ≡ Some now → P b was now) → OfValue Any (chain_meaning first) m n hop P
    of_block P at_all was now v told now_is st = subst (λ (x : List ℕ). P x was now) (held_stands was (tree_of hop) b v (at_block was told) st) (at_all was now (f.blocks ∙ told) now_is)

    is_among : (x : List ℕ) → x ≡ Block → Contains (Block ∷ []) x
    is_among x is = (0, omega arith, sym is)

    place_whole : (c : Bool) (ids : List (List (List ℕ))) (now : List (List ℕ)) → c ≡ true → IsWhole now (cond c ([] ∷ []) ids)
    place_whole true ids now is = record { ids = []; place = (0, omega arith, refl); children = tt }
    place_whole false ids now is = absurd (cc is)

    whole_block : (x : List ℕ) (now : List (List ℕ)) → x ≡ Block → IsWhole now (cond (same_text x Block) ([] ∷ []) [])
    whole_block x now is = place_whole (same_text x Block) [] now (ap (λ (y : List ℕ). same_text y Block) is ∙ nat_list_eq_equiv.refl Block)

    adds_at : (r : Result BlockId TreeErr) → Places k Block r n → (was now : List (List ℕ)) → k.blocks ≡ Some was → n.blocks ≡ Some now → (id x : List ℕ) → block_at now id ≡ Some x → (block_at was id ≡ Some x) ⊎ (x ≡ Block)
    adds_at r p was now told is = both_at k.blocks n.blocks was now (λ p q. (id x : List ℕ) → block_at q id ≡ Some x → (block_at p id ≡ Some x) ⊎ (x ≡ Block)) told is p.adds

    relink_answer : (r : Result BlockId TreeErr) → Places k Block r n → RelinkAnswer Any (chain_meaning first) m path hop new r n
    relink_answer (Ok id) p = of_block (λ v was now. IsSet Any (chain_meaning first) path hop new v id.0 was now) (λ was now told is. record {
      stands = stands_held now (record { first = hop.first; ty = hop.ty; id = id.0 }) Block (sym p.answer.0)
          (ap (block_at now) p.answer.0 ∙ told_at n.blocks now (λ h. block_at h (id_of Block) ≡ Some Block) is p.answer.1);
      adds = λ i x held. ⊎_elim (λ old. inl old) (λ same. inr (is_among x same)) (adds_at (Ok id) p was now told is i x held);
    })
    relink_answer (Err (E.Block j)) p = absurd p.answer
    relink_answer (Err E.Store) p = rose_on m.faults k.faults n.faults f.later.faults p.answer
    relink_answer (Err (E.Clash j kept block)) p = (
      (p.answer.0, p.answer.1),
      of_block (λ v was now. Clashes Any (chain_meaning first) path hop new v kept block now) (λ was now told is. record {
        held = told_at n.blocks now (λ h. block_at h (id_of kept) ≡ Some kept) is p.answer.3;
        among = is_among block p.answer.2;
      }),
    )
    relink_answer (Err E.Memory) p = tt

    pub chain_relinks : (r : Result BlockId TreeErr) → Places k Block r n → Relinks Any (chain_meaning first) m path hop new r n
    chain_relinks r p =
        let up = f.gets in
        let same = p.gets in
        let stays = f.puts in
        let more = p.puts in record {
          answer = relink_answer r p;
          later = Later-trans m k n f.later p.later;
          whole = of_block (λ v was now. CameWhole ((chain_meaning first).children hop.first hop.ty (set_in Any (chain_meaning first) path hop v new)) was now)
              (λ was now told is id x held. ⊎_elim (λ old. inl old) (λ s. inr (whole_block x now s)) (adds_at r p was now told is id x held));
          gets = λ was now v told is st. omega arith;
          puts = λ was now v told is st. omega arith;
        }
