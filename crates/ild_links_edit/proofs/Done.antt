-- What an edit in the last tree leaves, carried up through the links above it, and the document of the first tree's new root.
use Rattle.std.proofs.Common.{◌≡◌, ◌≢◌, ◌≤◌, ◌⊎◌, inl, inr, ⊎_elim, ℕ, ◌+◌, List, [], ◌∷◌, ◌++◌, length, get_or, Option, Some, None, IsSome, Result, Ok, Err, refl, sym, ap, ◌∙◌, subst, arith}
use Rattle.std.specs.Prelude.{Contains}
use Rattle.std.specs.List.{AllByRecursion}
use Rattle.std.specs.Option.{option_map_or}
use Rattle.std.proofs.lemmas.List.Elements.{Contains-append_left, Contains-append_right}
use Rattle.std.proofs.lemmas.Option.{none-some, same_Some}
use Rattle.ild_data.specs.Spell.{id_of, spell}
use Rattle.ild_data.specs.declared.id.BlockId.{BlockId}
use Rattle.ild_edges.proofs.Later.{Later-refl, Later-trans}
use Rattle.ild_edges.specs.Count.{Rose}
use Rattle.ild_edges.specs.Gained.{AddsOnly, AddsWhole, AreHeld, CameFrom, CameWhole, IsWhole, OnlyReads}
use Rattle.ild_edges.specs.Store.{Keeps, Later, Moment, block_at}
use Rattle.ild_edges.specs.Told.{BothTold, IfTold}
use Rattle.ild_links.proofs.Linking.{after}
use Rattle.ild_links.proofs.OneWalk.{walked_keeps}
use Rattle.ild_links.proofs.Walks.{walk_first}
use Rattle.ild_links.specs.Carries.{Carries as CarriesTo, CarryAnswer, IsWalked, IsWholeIn, root_in as tree_root}
use Rattle.ild_links.specs.Follows.{hops_of}
use Rattle.ild_links.specs.Trees.{first_tree}
use Rattle.ild_links.specs.Walk.{Entered, ended as ended_walk}
use Rattle.ild_links.specs.declared.error.TreeErr.{TreeErr}
use Rattle.ild_links.specs.declared.error.TreeErr.TheVariants as E
use Rattle.ild_links.specs.declared.following.TheConstants.{MOST_LINKS}
use Rattle.ild_links.specs.declared.hop.Hop.{Hop}
use Rattle.ild_links_edit.proofs.Blocks.{whole_among, whole_in_all, whole_wider}
use Rattle.ild_links_edit.proofs.Earlier.{cause_on, excused_on, refusal_in, root_of, told_root}
use Rattle.ild_links_edit.specs.inside.Changes.{LeavesBehind, due_behind, gets_behind}
use Rattle.ild_links_edit.specs.inside.Ends.{LeavesIn}
use Rattle.ild_links_edit.specs.inside.Finds.{FindsRoot, FoundAnswer}
use Rattle.ild_links_edit.specs.inside.Raises.{refused_as}
use Rattle.ild_links_lines.specs.Lines.{carry_ways, last_tree, setting_in, top_value, trees_above, trees_blocks, trees_children, trees_from}
use Rattle.ild_links_walk.specs.inside.Refusals.{tree_refusal}
use Rattle.ild_path_edits.specs.Edit.{Edit}
use Rattle.ild_path_edits.specs.Judged.{Tests}
use Rattle.ild_run_links.proofs.Standing.{stands_under}
use Rattle.ild_run_links.specs.Moments.{with_lacks}
use Rattle.ild_run_links.specs.Trees.{Setting as Reading, Storable, trees}
use Rattle.ild_run_standing.specs.Laws.{StandingAreAt}
use Rattle.ild_run_standing.specs.Standing.{IsHeldAt, setting_of}
use Rattle.ild_schema.specs.Value.{Value}
use Rattle.ild_schema.specs.declared.number.TypeNo.{TypeNo}
use Rattle.ild_schema.specs.declared.row.Row.{Row}
use Rattle.ild_script.specs.declared.reply.No.{No}
use Rattle.ild_script.specs.declared.reply.No.TheVariants as N
use Rattle.ild_script.specs.declared.reply.Reply.{Reply}
use Rattle.ild_script.specs.declared.reply.Reply.TheVariants as R
use Rattle.ild_script_meaning.specs.Lines.{Setting, changed, edit_due, edit_gets, edit_owes, in_slot, root_reply, tree_in, typed_lines, value_blocks, value_children}
use Rattle.ild_script_session.proofs.Came.{adds_wider}
use Rattle.ild_script_session.specs.Session.{idle, resting}
use Rattle.ild_script_session.specs.Step.{Carries, HasCause, Replies}
use Rattle.ild_typed.specs.Stands.{Stands, bare, root_id}
use Rattle.ild_typed_places.specs.Laws.{PlacesAreBlocks}
use Rattle.ild_view_doc.specs.Docs.{block_in, table_in, type_in}
use Rattle.ild_view_doc.specs.declared.doc.Doc.{Doc}

-- ---- told contents

both_at : (o p : Option (List (List ℕ))) (was now : List (List ℕ)) (P : List (List ℕ) → List (List ℕ) → Type 0) → o ≡ Some was → p ≡ Some now → BothTold o p P → P was now
both_at None p was now P told is t = absurd (none-some was told)
both_at (Some a) None was now P told is t = absurd (none-some now is)
both_at (Some a) (Some b) was now P told is t = subst (λ (x : List (List ℕ)). P x now) (same_Some a was told) (subst (λ (x : List (List ℕ)). P a x) (same_Some b now is) t)

both_is : (o p : Option (List (List ℕ))) (was now : List (List ℕ)) (P : List (List ℕ) → List (List ℕ) → Type 0) → o ≡ Some was → p ≡ Some now → P was now → BothTold o p P
both_is None p was now P told is x = absurd (none-some was told)
both_is (Some a) None was now P told is x = absurd (none-some now is)
both_is (Some a) (Some b) was now P told is x = subst (λ (y : List (List ℕ)). P y b) (sym (same_Some a was told)) (subst (λ (y : List (List ℕ)). P was y) (sym (same_Some b now is)) x)

wider_whole : (few many : List ℕ → List (List (List ℕ))) → ((b : List ℕ) (x : List (List ℕ)) → Contains (few b) x → Contains (many b) x) → (o p : Option (List (List ℕ))) → BothTold o p (λ was now. CameWhole few was now) → BothTold o p (λ was now. CameWhole many was now)
wider_whole few many sub None None x = tt
wider_whole few many sub None (Some b) x = absurd x
wider_whole few many sub (Some a) None x = absurd x
wider_whole few many sub (Some a) (Some b) x = λ id c there. ⊎_elim (λ old. inl old) (λ w. inr (whole_wider b (few c) (many c) (sub c) w)) (x id c there)

children_keep : (was now ids : List (List ℕ)) → Keeps was now → AllByRecursion (λ id. IsSome (block_at was id)) ids → AllByRecursion (λ id. IsSome (block_at now id)) ids
children_keep was now [] keeps held = tt
children_keep was now (id ∷ ids) keeps held = (kept (block_at was id) refl held.0, children_keep was now ids keeps held.1)
  where
    kept : (o : Option (List ℕ)) → block_at was id ≡ o → IsSome o → IsSome (block_at now id)
    kept None is some = absurd (cc some)
    kept (Some b) is some = subst (λ (x : Option (List ℕ)). IsSome x) (sym (keeps id b is)) refl

whole_keeps : (was now : List (List ℕ)) (places : List (List (List ℕ))) → Keeps was now → IsWhole was places → IsWhole now places
whole_keeps was now places keeps w = record { ids = w.ids; place = w.place; children = children_keep was now w.ids keeps w.children }

module _ (old : Doc) (tests : Tests) (v : Value) (path : List (List ℕ)) (top next : Entered Value) (more : List (Entered Value)) (e : Edit (List ℕ)) where
  abbrev pub W : Setting
  W = setting_of id_of old tests

  abbrev pub Read : Reading
  Read = trees_from W v

  abbrev pub Es : List (Entered Value)
  Es = top ∷ next ∷ more

  abbrev pub Last : Entered Value
  Last = last_tree next more

  abbrev pub Own : Setting
  Own = setting_in W Last

  abbrev pub New : Value → List ℕ
  New c = option_map_or (root_id bare) (tree_in Own (in_slot Own c)) []

  abbrev pub Above : Value → List (Entered Value)
  Above c = trees_above W v path Es Own c

  abbrev pub Adds : Value → List (List ℕ)
  Adds c = value_blocks Own c ++ trees_blocks W (Above c)

  abbrev pub Children : Value → List ℕ → List (List (List ℕ))
  Children c b = value_children Own c b ++ trees_children W (Above c) b

  abbrev Leaves : Moment → Result Doc No → Moment → Type 0
  Leaves m result n = LeavesBehind old tests v path Es Last e m result n

  ways_some : 1 ≤ carry_ways W v path Es
  ways_some = omega arith

  -- ---- the last tree

  -- its value is changed, and the new root block put
  pub record Ended (m k : Moment) (new : List ℕ) : Type 0 where
    pub value : Value
    pub edited : changed Own Last.value e ≡ Ok value
    pub root : new ≡ New value
    pub later : Later m k
    pub adds : AddsOnly m k (value_blocks Own value)
    pub whole : AddsWhole m k (value_children Own value)
    pub gets : k.gets ≤ m.gets + (length (value_blocks Own Last.value) + edit_gets Own Last.value e None)
    pub puts : k.puts ≤ m.puts + edit_owes Own Last.value e (Ok value)

  -- what is replied in the last tree, where the edit makes this of its value
  abbrev RepliesLast : Moment → Reply → Moment → Value → Result Value No → Type 0
  RepliesLast m reply k then x =
      Replies (typed_lines Own) m (resting Last.value) (record (edit_due Own (idle Last.value) e x) { gets = length (value_blocks Own Last.value) + (edit_due Own (idle Last.value) e x).gets }) (Some reply) k (resting then)

  ended_by : (m k : Moment) (root : BlockId) (then : Value) (x : Result Value No) → changed Own Last.value e ≡ x → RepliesLast m (R.Root root) k then x → Ended m k root.0
  ended_by m k root then (Err y) is r = ⊎_elim (λ due. absurd (cc due.0)) (λ ex. absurd ex.0) r.answered
  ended_by m k root then (Ok c) is r =
      ⊎_elim (λ due. record { value = c; edited = is; root = ap told_root due.0; later = r.later; adds = r.stored.adds; whole = r.stored.whole; gets = r.gets; puts = r.puts }) (λ ex. absurd ex.0) r.answered

  pub ended : (m k : Moment) (root : BlockId) → LeavesIn Own Last.value e m (Ok root) k → Ended m k root.0
  ended m k root l = ended_by m k root l.next (changed Own Last.value e) refl l.replies

  refused_by : (m k : Moment) (refusal : No) (then : Value) → m.blocks ≢ None → IsHeldAt id_of old tests k v → (x : Result Value No) → changed Own Last.value e ≡ x → RepliesLast m (R.No refusal) k then x
      → Replies (typed_lines W) m (resting v) (due_behind W v path Es Last e x) (Some (R.No refusal)) k (resting v)
  refused_by m k refusal then told held (Err y) is r = record {
    answered = ⊎_elim (λ due. inl (due.0, refl)) (λ ex. inr (ex.0, refl)) r.answered;
    later = r.later;
    carries = λ c. held.carries;
    stored = record { adds = r.stored.adds; whole = r.stored.whole };
    still = r.still;
    stays = tt;
    gets = let own = r.gets in omega (arith, own);
    puts = r.puts;
    owed = omega arith;
  }
  refused_by m k refusal then told held (Ok c) is r = record {
    answered = ⊎_elim (λ due. absurd (cc due.0))
        (λ ex. inr (excused_on m m k (value_blocks Own c) (Adds c) (cause_on m m k (value_blocks Own c) (Adds c) (Later-refl m) told (Contains-append_left (value_blocks Own c) (trees_blocks W (Above c)))) (Some (R.No refusal)) ex.0, refl)) r.answered;
    later = r.later;
    carries = λ c. held.carries;
    stored = record {
      adds = adds_wider m k (value_blocks Own c) (Adds c) (Contains-append_left (value_blocks Own c) (trees_blocks W (Above c))) r.stored.adds;
      whole = wider_whole (value_children Own c) (Children c) (λ b. Contains-append_left (value_children Own c b) (trees_children W (Above c) b)) m.blocks k.blocks r.stored.whole;
    };
    still = λ none. let some = ways_some in absurd (omega (arith, none, some));
    stays = tt;
    gets = let own = r.gets in omega (arith, own);
    puts = let own = r.puts in omega (arith, own);
    owed = omega arith;
  }

  pub refused_end : (m k : Moment) (refusal : No) → m.blocks ≢ None → IsHeldAt id_of old tests k v → LeavesIn Own Last.value e m (Err refusal) k → Leaves m (Err refusal) k
  refused_end m k refusal told held l = record { next = v; at = held; replies = refused_by m k refusal l.next told held (changed Own Last.value e) refl l.replies }

  -- ---- the trees above

  -- so far no more came, with so many gets left
  pub record SoFar (m x : Moment) (c : Value) (left : ℕ) : Type 0 where
    pub later : Later m x
    pub adds : AddsOnly m x (Adds c)
    pub whole : AddsWhole m x (Children c)
    pub gets : x.gets + left ≤ m.gets + gets_behind W v path Es Last e
    pub puts : x.puts ≤ m.puts + (edit_owes Own Last.value e (Ok c) + carry_ways W v path Es)

  pub refused_far : (m x : Moment) (c : Value) (left : ℕ) (refusal : No) → SoFar m x c left → changed Own Last.value e ≡ Ok c → HasCause m (Adds c) refusal x → IsHeldAt id_of old tests x v → Leaves m (Err refusal) x
  refused_far m x c left refusal so is cause held = record {
    next = v;
    at = held;
    replies = subst (λ (z : Result Value No). Replies (typed_lines W) m (resting v) (due_behind W v path Es Last e z) (Some (R.No refusal)) x (resting v)) (sym is) (record {
      answered = inr (inl cause, refl);
      later = so.later;
      carries = λ z. held.carries;
      stored = record { adds = so.adds; whole = so.whole };
      still = λ none. let some = ways_some in absurd (omega (arith, none, some));
      stays = tt;
      gets = let own = so.gets in omega (arith, own);
      puts = so.puts;
      owed = omega arith;
    });
  }

  -- the contents at three moments
  pub record Contents (m k l : Moment) (was : List (List ℕ)) : Type 0 where
    pub mid : List (List ℕ)
    pub now : List (List ℕ)
    pub told : m.blocks ≡ Some was
    pub told_mid : k.blocks ≡ Some mid
    pub told_now : l.blocks ≡ Some now
    pub keeps : Keeps was mid
    pub stays : Keeps mid now

  pub contents : (m k l : Moment) (was : List (List ℕ)) → m.blocks ≡ Some was → Later m k → Later k l → Contents m k l was
  contents m k l was told first then =
      let a = after m k was first told in
      let b = after k l a.now then a.told in
      record { mid = a.now; now = b.now; told = told; told_mid = a.told; told_now = b.told; keeps = a.keeps; stays = b.keeps }

  module _ (places : PlacesAreBlocks) (m k l : Moment) (c : Value) (hops : List Hop) (answer : Result BlockId TreeErr) (before lacks : ℕ) (was : List (List ℕ)) (z : Contents m k l was) (walked : IsWalked (Storable Read) (trees Read) was path Es) (are : hops ≡ hops_of Es)
      (later : Later m k) (then : Later k l) (y : CarriesTo (Storable Read) (trees Read) (with_lacks k before) path hops (New c) answer (with_lacks l lacks)) where
    walked_mid : IsWalked (Storable Read) (trees Read) z.mid path Es
    walked_mid = walked_keeps (Storable Read) (trees Read) was z.mid path Es z.keeps walked

    came : (id b : List ℕ) → block_at z.now id ≡ Some b → (block_at z.mid id ≡ Some b) ⊎ IsWholeIn (Storable Read) (trees Read) z.now (Above c) b
    came = y.whole z.mid z.now Es z.told_mid z.told_now walked_mid are

    adds_far : CameFrom (value_blocks Own c) was z.mid → CameFrom (Adds c) was z.now
    adds_far first id b there =
        ⊎_elim (λ older. ⊎_elim (λ oldest. inl oldest) (λ own. inr (Contains-append_left (value_blocks Own c) (trees_blocks W (Above c)) b own)) (first id b older))
        (λ w. inr (Contains-append_right (value_blocks Own c) (trees_blocks W (Above c)) b (whole_among places Read z.now (Above c) b w))) (came id b there)

    whole_far : CameWhole (value_children Own c) was z.mid → CameWhole (Children c) was z.now
    whole_far first id b there =
        let left = value_children Own c b in
        let right = trees_children W (Above c) b in
        ⊎_elim (λ older. ⊎_elim (λ oldest. inl oldest) (λ own. inr (whole_wider z.now left (Children c b) (Contains-append_left left right) (whole_keeps z.mid z.now left z.stays own))) (first id b older))
        (λ w. inr (whole_wider z.now right (Children c b) (Contains-append_right left right) (whole_in_all Read z.now (Above c) b w))) (came id b there)

    pub so_far : AddsOnly m k (value_blocks Own c) → AddsWhole m k (value_children Own c) → k.gets ≤ m.gets + (length (value_blocks Own Last.value) + edit_gets Own Last.value e None) → k.puts ≤ m.puts + edit_owes Own Last.value e (Ok c) → SoFar m l c 1
    so_far adds whole gets puts =
        let more_gets = y.gets z.mid z.now Es z.told_mid z.told_now walked_mid are in
        let more_puts = y.puts z.mid z.now Es z.told_mid z.told_now walked_mid are in record {
          later = Later-trans m k l later then;
          adds = both_is m.blocks l.blocks was z.now (λ a b. CameFrom (Adds c) a b) z.told z.told_now (adds_far (both_at m.blocks k.blocks was z.mid (λ a b. CameFrom (value_blocks Own c) a b) z.told z.told_mid adds));
          whole = both_is m.blocks l.blocks was z.now (λ a b. CameWhole (Children c) a b) z.told z.told_now (whole_far (both_at m.blocks k.blocks was z.mid (λ a b. CameWhole (value_children Own c) a b) z.told z.told_mid whole));
          gets = omega (arith, gets, more_gets);
          puts = omega (arith, puts, more_puts);
        }

    -- why no root comes up
    up_cause : (err : TreeErr) → CarryAnswer (Storable Read) (trees Read) (with_lacks k before) path hops (New c) (Err err) (with_lacks l lacks) → HasCause m (Adds c) (tree_refusal err) l
    up_cause (E.Block j) a = absurd (none-some z.mid (sym a.0 ∙ z.told_mid))
    up_cause E.Store a = let up = later.faults in let rose : Rose k.faults l.faults = a in omega (arith, up, rose)
    up_cause (E.Clash j kept block) a =
        let clash = a.1 z.mid z.now Es z.told_mid z.told_now walked_mid are in record {
          kept = kept;
          new = block;
          held = subst (λ o. IfTold o (λ held. AreHeld (kept ∷ []) held)) (sym z.told_now) (clash.held, tt);
          among = Contains-append_right (value_blocks Own c) (trees_blocks W (Above c)) block clash.among;
          collide = a.0.0;
        }
    up_cause E.Memory a = tt

    pub not_raised : (refusal : No) → Err refusal ≡ refused_as answer → HasCause m (Adds c) refusal l
    not_raised refusal is = by answer is y.answer where
      by : (r : Result BlockId TreeErr) → Err refusal ≡ refused_as r → CarryAnswer (Storable Read) (trees Read) (with_lacks k before) path hops (New c) r (with_lacks l lacks) → HasCause m (Adds c) refusal l
      by (Ok root) x a = absurd (cc x)
      by (Err err) x a = subst (λ (r : No). HasCause m (Adds c) r l) (sym (ap refusal_in x)) (up_cause err a)

    -- the first tree's value stands under the root that came up
    top_type : top.hop.ty ≡ type_in old
    top_type =
        let f = walk_first (Storable Read) (trees Read) was path MOST_LINKS (first_tree (trees Read)) walked.value 0 (record { trees = Es; ending = ended_walk }) walked.walk in
        ap (λ (xs : List (Entered Value)). (get_or xs 0 top).hop.ty) f.is

    stands_by : (root : BlockId) → CarryAnswer (Storable Read) (trees Read) (with_lacks k before) path hops (New c) (Ok root) (with_lacks l lacks) → Stands bare (block_at z.now) id_of (table_in old) (type_in old) root.0 (top_value W (Above c) c)
    stands_by root a =
        let up = a.1 z.mid z.now Es z.told_mid z.told_now walked_mid are in
        let first : Entered Value = record { hop = top.hop; value = top_value W (Above c) c } in
        let st = stands_under Read z.now (record { first = top.hop.first; ty = top.hop.ty; id = tree_root (Storable Read) (trees Read) first }) (top_value W (Above c) c) up.stand.0 in
        subst (λ (ty : TypeNo). Stands bare (block_at z.now) id_of (table_in old) ty root.0 (top_value W (Above c) c)) top_type
        (subst (λ (id : List ℕ). Stands bare (block_at z.now) id_of (table_in old) top.hop.ty id (top_value W (Above c) c)) (sym up.root_is) st)

    pub raised : (root : BlockId) → Ok root ≡ refused_as answer → Stands bare (block_at z.now) id_of (table_in old) (type_in old) root.0 (top_value W (Above c) c)
    raised root is = by answer is y.answer where
      by : (r : Result BlockId TreeErr) → Ok root ≡ refused_as r → CarryAnswer (Storable Read) (trees Read) (with_lacks k before) path hops (New c) r (with_lacks l lacks) → Stands bare (block_at z.now) id_of (table_in old) (type_in old) root.0 (top_value W (Above c) c)
      by (Ok other) x a = subst (λ (id : List ℕ). Stands bare (block_at z.now) id_of (table_in old) (type_in old) id (top_value W (Above c) c)) (sym (ap root_of x)) (stands_by other a)
      by (Err err) x a = absurd (cc x)

  -- ---- the first tree's new root

  found_far : (m l n : Moment) (c : Value) → OnlyReads l n → n.gets ≤ l.gets + 1 → SoFar m l c 1 → SoFar m n c 0
  found_far m l n c reads few so = record {
    later = Later-trans m l n so.later reads.later;
    adds = subst (λ o. BothTold m.blocks o (λ was now. CameFrom (Adds c) was now)) (sym reads.blocks) so.adds;
    whole = subst (λ o. BothTold m.blocks o (λ was now. CameWhole (Children c) was now)) (sym reads.blocks) so.whole;
    gets = let own = so.gets in omega (arith, own, few);
    puts = let own = so.puts in let still = reads.puts in omega (arith, own, still);
  }

  -- a new root is carried up, and the changed value of the first tree stands under it
  pub record Ready (m l : Moment) (root : List ℕ) : Type 0 where
    pub value : Value
    pub edited : changed Own Last.value e ≡ Ok value
    pub so : SoFar m l value 1
    pub now : List (List ℕ)
    pub told : l.blocks ≡ Some now
    pub stands : Stands bare (block_at now) id_of (table_in old) (type_in old) root (top_value W (Above value) value)

  module _ (at : StandingAreAt) (m l n : Moment) (root : BlockId) (later : Later m l) (c : Value) (is : changed Own Last.value e ≡ Ok c) (so : SoFar m l c 1) (now : List (List ℕ)) (told : l.blocks ≡ Some now)
      (st : Stands bare (block_at now) id_of (table_in old) (type_in old) root.0 (top_value W (Above c) c)) where
    found_cause : (refusal : No) → FoundAnswer (table_in old) (type_in old) root.0 l (Err refusal) n → HasCause m (Adds c) refusal n
    found_cause N.Line a = absurd a
    found_cause N.Path a = absurd a
    found_cause N.Json a = absurd a
    found_cause N.Mismatch a = absurd a
    found_cause N.Delimiter a = absurd a
    found_cause N.Hole a = absurd a
    found_cause N.Depth a = absurd a
    found_cause N.Exhausted a = absurd a
    found_cause N.Size a = absurd a
    found_cause N.Reserved a = absurd a
    found_cause N.Block a = absurd (a id_of now (top_value W (Above c) c) told st)
    found_cause N.Store a = let up = later.faults in let rose : Rose l.faults n.faults = a in omega (arith, up, rose)
    found_cause N.Clash a = absurd a
    found_cause N.Memory a = tt
    found_cause N.Batch a = absurd a

    pub not_found : (refusal : No) → FindsRoot (table_in old) (type_in old) root.0 l (Err refusal) n → IsHeldAt id_of old tests n v → Leaves m (Err refusal) n
    not_found refusal x held = refused_far m n c 0 refusal (found_far m l n c x.reads x.gets so) is (found_cause refusal x.answer) held

    module _ (d : Doc) (x : FindsRoot (table_in old) (type_in old) root.0 l (Ok d) n) where
      told_end : n.blocks ≡ Some now
      told_end = x.reads.blocks ∙ told

      held_there : block_at now root.0 ≡ Some (block_in d)
      held_there = subst (λ o. IfTold o (λ held. block_at held root.0 ≡ Some (block_in d))) told x.answer.held

      spelled : block_in d ≡ spell st.tree
      spelled = same_Some (block_in d) (spell st.tree) (sym held_there ∙ ap (block_at now) st.root ∙ st.all.0)

      in_doc : Stands bare (block_at now) id_of (table_in d) (type_in d) (id_of (block_in d)) (top_value W (Above c) c)
      in_doc =
          subst (λ (i : List ℕ). Stands bare (block_at now) id_of (table_in d) (type_in d) i (top_value W (Above c) c)) (sym x.answer.named)
          (subst (λ (u : TypeNo). Stands bare (block_at now) id_of (table_in d) u root.0 (top_value W (Above c) c)) (sym x.answer.type)
          (subst (λ (t : List Row). Stands bare (block_at now) id_of t (type_in old) root.0 (top_value W (Above c) c)) (sym x.answer.table) st))

      at_doc : IsHeldAt id_of d tests n (top_value W (Above c) c)
      at_doc = at id_of d tests n now (top_value W (Above c) c) told_end (ap (block_at now) x.answer.named ∙ held_there) in_doc

      setting : setting_of id_of d tests ≡ W
      setting = λ i. record { frame = bare; hash = id_of; rows = x.answer.table i; tests = tests; ty = x.answer.type i }

      reply_is : Some (R.Root (record { 0 = id_of (block_in d) })) ≡ Some (root_reply W (top_value W (Above c) c))
      reply_is = ap (λ (i : List ℕ). Some (R.Root (record { 0 = i }))) (ap id_of spelled ∙ sym (ap (λ o. option_map_or (root_id bare) o []) st.storable.tree))

      pub done : Leaves m (Ok d) n
      done =
          let far = found_far m l n c x.reads x.gets so in record {
            next = top_value W (Above c) c;
            at = at_doc;
            replies = subst (λ (z : Result Value No). Replies (typed_lines W) m (resting v) (due_behind W v path Es Last e z) (Some (R.Root (record { 0 = id_of (block_in d) }))) n (resting (top_value W (Above c) c))) (sym is) (record {
              answered = inl (reply_is, refl);
              later = far.later;
              carries = λ z. subst (λ (u : Setting). Carries (typed_lines u) n (resting (top_value W (Above c) c))) setting at_doc.carries;
              stored = record { adds = far.adds; whole = far.whole };
              still = λ none. let some = ways_some in absurd (omega (arith, none, some));
              stays = tt;
              gets = let own = far.gets in omega (arith, own);
              puts = far.puts;
              owed = omega arith;
            });
          }
