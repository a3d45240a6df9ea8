-- What a line of a script is due where a path that stops at a typed link, with segments left, goes on in the tree to which the link leads
-- (IPLD Schemas, "Links"). All trees stand under bare roots.
use Rattle.std.specs.Prelude.{ℕ, ◌+◌, ◌*◌, Bool, true, false, List, [], ◌∷◌, ◌++◌, length, drop, is_some, Option, Some, None, Result, Ok, Err}
use Rattle.std.specs.List.{flat_map}
use Rattle.std.specs.Option.{option_map_or}
use Rattle.ild_links.specs.Carries.{changed as changed_trees, relinks_ways}
use Rattle.ild_links.specs.Follows.{stops_gets}
use Rattle.ild_links.specs.Trees.{first_tree}
use Rattle.ild_links.specs.Walk.{Ending, Entered, Walk, Walked, ended, not_held, too_deep}
use Rattle.ild_links.specs.declared.following.TheConstants.{MOST_LINKS}
use Rattle.ild_path_edits.specs.Edit.{Edit, del_at, ins_at, path_of, set_at}
use Rattle.ild_run_links.specs.Trees.{Setting as Reading, Storable, trees}
use Rattle.ild_schema.specs.Value.{Value}
use Rattle.ild_script.specs.declared.reply.No.{No}
use Rattle.ild_script.specs.declared.reply.No.TheVariants as N
use Rattle.ild_script.specs.declared.reply.Reply.TheVariants as R
use Rattle.ild_script_meaning.specs.Ask.{Ask, Tell, to_edit, to_tell}
use Rattle.ild_script_meaning.specs.Costs.{tell_gets}
use Rattle.ild_script_meaning.specs.Lines.{Setting, changed, due, edit_blocks, edit_children, edit_gets, edit_owes, in_slot, quiet, read_reply, root_reply, tree_in, value_blocks, value_children}
use Rattle.ild_script_session.specs.Session.{Due, State}
use Rattle.ild_typed.specs.Stands.{bare, root_id}

-- the path that a line goes along, where it goes along one
abbrev pub path_in : Ask → Option (List (List ℕ))
path_in (to_tell t path) = Some path
path_in (to_edit e) = Some (path_of e)
path_in a = None

-- the same edit at another path
abbrev pub edit_at : {X : Type 0} → List (List ℕ) → Edit X → Edit X
edit_at path (set_at old x) = set_at path x
edit_at path (ins_at old x) = ins_at path x
edit_at path (del_at old) = del_at path

-- the last of trees that are entered, this one first
abbrev pub last_tree : Entered Value → List (Entered Value) → Entered Value
last_tree e [] = e
last_tree e (f ∷ es) = last_tree f es

module _ (w : Setting) where
  -- ---- the walk

  -- the id of the root block of a value; of one without a representation there is none
  abbrev pub root_under : Value → List ℕ
  root_under v = option_map_or (root_id bare) (tree_in w (in_slot w v)) []

  -- the trees that links join, of which the first is that of a value
  abbrev pub trees_from : Value → Reading
  trees_from v = record { hash = w.hash; rows = w.rows; ty = w.ty; id = root_under v }

  -- the walk of a path from a value on, over these blocks
  abbrev pub WalksFrom : List (List ℕ) → Value → List (List ℕ) → Walked Value → Type 0
  WalksFrom held v path walked = Walk (Storable (trees_from v)) (trees (trees_from v)) held path MOST_LINKS (first_tree (trees (trees_from v))) v 0 walked

  -- how many gets it takes at most
  abbrev pub walk_gets : Value → List (List ℕ) → List (Entered Value) → ℕ
  walk_gets v path es = stops_gets (Storable (trees_from v)) (trees (trees_from v)) path es

  -- what lines are about in a tree of it, and the segments that are left there
  abbrev pub setting_in : Entered Value → Setting
  setting_in e = record w { frame = bare; ty = e.hop.ty }

  abbrev pub rest_in : Entered Value → List (List ℕ) → List (List ℕ)
  rest_in e path = drop e.hop.from path

  -- the last tree is opened once more
  abbrev pub open_gets : Value → List (List ℕ) → List (Entered Value) → Entered Value → ℕ
  open_gets v path es last = walk_gets v path es + length (value_blocks (setting_in last) last.value)

  -- ---- a read

  abbrev pub read_across : State Value → Tell → List (List ℕ) → List (Entered Value) → Entered Value → Due Value
  read_across s t path es last =
      quiet (open_gets s.value path es last + tell_gets w.hash w.rows t (in_slot (setting_in last) last.value) (rest_in last path))
      (Some (read_reply (setting_in last) t (rest_in last path) last.value)) s

  -- ---- an edit

  -- the trees above the last, each with its link set to the new root of the one below it, where this is the new value of the last
  abbrev pub trees_above : Value → List (List ℕ) → List (Entered Value) → Setting → Value → List (Entered Value)
  trees_above v path es own c = changed_trees (Storable (trees_from v)) (trees (trees_from v)) path es (option_map_or (root_id bare) (tree_in own (in_slot own c)) [])

  -- how many gets and puts that takes at most
  abbrev pub carry_ways : Value → List (List ℕ) → List (Entered Value) → ℕ
  carry_ways v path es = relinks_ways (Storable (trees_from v)) (trees (trees_from v)) path es

  -- the value of the first of changed trees, where the last has this one
  abbrev pub top_value : List (Entered Value) → Value → Value
  top_value [] c = c
  top_value (e ∷ es) c = e.value

  abbrev pub trees_blocks : List (Entered Value) → List (List ℕ)
  trees_blocks es = flat_map (λ e. value_blocks (setting_in e) e.value) es

  abbrev pub trees_children : List (Entered Value) → List ℕ → List (List (List ℕ))
  trees_children es b = flat_map (λ e. value_children (setting_in e) e.value b) es

  module _ (s : State Value) (path : List (List ℕ)) (es : List (Entered Value)) (last : Entered Value) where
    -- the walk, the edit in the last tree, the links above it, and the first tree's new root
    abbrev pub edit_across_gets : Edit (List ℕ) → ℕ
    edit_across_gets e = open_gets s.value path es last + edit_gets (setting_in last) last.value e None + 2 * carry_ways s.value path es + 1

    -- an edit that is refused in the last tree
    abbrev pub refused_across : Edit (List ℕ) → No → Due Value
    refused_across e refusal = record {
      reply = Some (R.No refusal);
      next = s;
      adds = edit_blocks (setting_in last) last.value e (Err refusal);
      children = edit_children (setting_in last) last.value e (Err refusal);
      gets = edit_across_gets e;
      puts = edit_owes (setting_in last) last.value e (Err refusal);
      owes = 0;
    }

    -- one that makes this value of it, and these of the trees above
    abbrev pub edited_across : Edit (List ℕ) → Value → List (Entered Value) → Due Value
    edited_across e c above = record {
      reply = Some (root_reply w (top_value above c));
      next = record s { value = top_value above c };
      adds = value_blocks (setting_in last) c ++ trees_blocks above;
      children = λ b. value_children (setting_in last) c b ++ trees_children above b;
      gets = edit_across_gets e;
      puts = edit_owes (setting_in last) last.value e (Ok c) + carry_ways s.value path es;
      owes = 0;
    }

    abbrev pub judged_across : Edit (List ℕ) → Result Value No → Due Value
    judged_across e (Err refusal) = refused_across e refusal
    judged_across e (Ok c) = edited_across e c (trees_above s.value path es (setting_in last) c)

    -- inside a batch no edit crosses a link
    abbrev pub edit_across : Bool → Edit (List ℕ) → Due Value
    edit_across true e = quiet (walk_gets s.value path es) (Some (R.No N.Batch)) s
    edit_across false e = judged_across e (changed (setting_in last) last.value e)

  -- ---- a line along a path, by its walk; inside a batch or outside

  abbrev pub due_across : Bool → State Value → Ask → List (List ℕ) → List (Entered Value) → Entered Value → Due Value
  due_across inside s (to_tell t old) path es last = read_across s t path es last
  due_across inside s (to_edit e) path es last = edit_across s path es last inside (edit_at (rest_in last path) e)
  due_across inside s a path es last = due w a s

  -- where the walk enters the first tree alone, the line is due what it is due there
  abbrev pub due_in : Bool → State Value → Ask → List (List ℕ) → List (Entered Value) → Due Value
  due_in inside s a path [] = due w a s
  due_in inside s a path (e ∷ []) = record (due w a s) { gets = walk_gets s.value path (e ∷ []) }
  due_in inside s a path (e ∷ f ∷ es) = due_across inside s a path (e ∷ f ∷ es) (last_tree f es)

  -- A walk crosses at most so many links, and only to a tree for which a value stands. Of one that meets a tree for which none stands, no number
  -- of gets is said: any may come.
  abbrev pub due_by : Bool → State Value → Ask → List (List ℕ) → ℕ → List (Entered Value) → Ending → Due Value
  due_by inside s a path any es ended = due_in inside s a path es
  due_by inside s a path any es too_deep = quiet (walk_gets s.value path es) (Some (R.No N.Depth)) s
  due_by inside s a path any es (not_held j) = quiet any (Some (R.No N.Block)) s

  abbrev pub walk_due : Bool → State Value → Ask → List (List ℕ) → ℕ → Walked Value → Due Value
  walk_due inside s a path any walked = due_by inside s a path any walked.trees walked.ending

  -- A line is answered in the first tree, and then, where its path may lead no further there, along the walk.
  abbrev pub due_along : State Value → Ask → List (List ℕ) → ℕ → Walked Value → Due Value
  due_along s a path any walked = record (walk_due (is_some s.begun) s a path any walked) { gets = (due w a s).gets + (walk_due (is_some s.begun) s a path any walked).gets }
