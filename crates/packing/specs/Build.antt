-- The stack on which a register is built, and what each step makes of it.
use Rattle.std.specs.Prelude.{ℕ, suc, ◌+◌, ◌-◌, ◌*◌, ◌/◌, ◌^◌, ◌≤◌, ◌<◌, ◌≡◌, Bool, true, List, [], ◌∷◌, ◌++◌, length, get_or, take, drop, set}
use Rattle.pktree.specs.Lists.{Every}
use Rattle.pktree.specs.Panel.{OnPanel}
use Rattle.pktree.specs.PixelSet.{Ascending}
use Rattle.pktree.specs.Elements.{size}
use Rattle.pktree.specs.Tree.{pixels}
use Rattle.pktree.proofs.Forests.{block_count}
use Rattle.pktree.proofs.Alignment.{block_code}
use Rattle.pktree.proofs.Regroup.{count_around}
use Rattle.measures.specs.Words.{head_words}
use Rattle.measures.specs.declared.sizes.Layout.{Layout}
use Rattle.measures.specs.Sizes.{panel_of}
use Rattle.measures.specs.Layout.{LayoutFits, store_end}
use Rattle.measures.specs.Slot.{element_index}
use Rattle.elements.specs.Element.{block_tag}
use Rattle.store.specs.Placed.{Placed, slots_of}
use Rattle.freeslots.specs.FreeSlots.{occurrences, numbers_from}
use Rattle.sums.specs.Sum.{number_of_elements}
use Rattle.store.proofs.Standing.{element_words, Stands}
use Rattle.store.proofs.BlockNumbers.{TreeNumbers}
use Rattle.packing.specs.declared.Build.{Build}
use Rattle.packing.specs.declared.plan.Plan.{Plan}
use Rattle.packing.specs.Growing.{Open, most_open, stack_words}
use Rattle.laying.specs.Blocks.{BlockLaid}

-- nothing is built yet: no element is on the stack, and slot 0 is the root's
abbrev pub empty_build : Build
empty_build = record { count = 0; fresh = 1; last = 0 }

-- the first of the last k elements lies in no block around the last code of a level below the limit
pub record NothingToPack (k : ℕ) (stack : List ℕ) (build : Build) (limit : ℕ) : Type 0 where
  pub none : k ≤ build.count → (i : ℕ) → i < limit → get_or stack (2 * (build.count - k)) 0 / 4 ^ i ≡ build.last / 4 ^ i → ⊥

pub record NoneComplete (k : ℕ) (stack : List ℕ) (build : Build) (limit : ℕ) (r : Bool) : Type 0 where
  pub says : r ≡ true → NothingToPack k stack build limit

pub record PackDue (layout : Layout) (words stack : List ℕ) (build : Build) (first level : ℕ) : Type 0 where
  pub fits : LayoutFits layout words
  pub slot_left : build.fresh < layout.slots
  pub some : first < build.count
  pub there : 2 * build.count ≤ length stack
  pub few : build.count ≤ most_open + 1
  pub room : element_index (build.count - first) ≤ layout.width
  pub level_to : level ≤ 15

-- the words of the elements from `first` on
abbrev pub packed_words : List ℕ → Build → ℕ → List ℕ
packed_words stack build first = take (2 * (build.count - first)) (drop (2 * first) stack)

-- the elements from `first` on are a block in the next slot, with the number of pixels that they stand for, and one element on the stack
pub record PackedRun (layout : Layout) (build : Build) (first level : ℕ) (words words' stack stack' : List ℕ) (r : Build) : Type 0 where
  pub laid : BlockLaid layout.width build.fresh level (block_code level build.last) (number_of_elements layout words (build.count - first) (packed_words stack build first))
      (packed_words stack build first) words words'
  pub stack_is : stack' ≡ set (set stack (2 * first) (block_code level build.last)) (2 * first + 1) (block_tag build.fresh level)
  pub count_is : r.count ≡ first + 1
  pub fresh_is : r.fresh ≡ build.fresh + 1
  pub last_is : r.last ≡ build.last

-- there is room for one element more
pub record PushDue (stack : List ℕ) (build : Build) : Type 0 where
  pub there : 2 * build.count + 2 ≤ length stack
  pub few : build.count ≤ most_open

pub record PushedCode (build : Build) (code : ℕ) (stack stack' : List ℕ) (r : Build) : Type 0 where
  pub stack_is : stack' ≡ set (set stack (2 * build.count) code) (2 * build.count + 1) 0
  pub count_is : r.count ≡ build.count + 1
  pub fresh_is : r.fresh ≡ build.fresh
  pub last_is : r.last ≡ code

-- what stays while a register is filled
pub record Ground (plan : Plan) (words stack : List ℕ) : Type 0 where
  pub fits : LayoutFits plan.layout words
  pub stack_long : length stack ≡ stack_words

-- the first codes, built: the elements on the stack, below `to`, and the blocks among them, with their numbers, in slots 1, 2 and so on
pub record Grown (plan : Plan) (words stack : List ℕ) (build : Build) (to : ℕ) (codes : List ℕ) : Type 0 where
  pub placed : Placed
  pub many : size placed ≡ build.count
  pub on_stack : take (2 * build.count) stack ≡ element_words placed
  pub stands : Stands plan.layout.width words placed
  pub numbers : TreeNumbers plan.layout.width words placed
  pub fresh_is : build.fresh ≡ suc (block_count placed)
  pub numbered : (s : ℕ) → occurrences s (slots_of placed) ≡ occurrences s (numbers_from 1 (block_count placed))
  pub opened : Open plan.sizes.k plan.sizes.order build.last to placed
  pub codes_are : pixels placed ≡ codes

-- words 0 to 7 and those past the slots are as they were
pub record Beside (layout : Layout) (before after : List ℕ) : Type 0 where
  pub long : length after ≡ length before
  pub head : take head_words after ≡ take head_words before
  pub past : drop (store_end layout) after ≡ drop (store_end layout) before

-- blocks around the last code below a level are complete: they end before `to`
pub record PackCompleteAt (plan : Plan) (words stack : List ℕ) (build : Build) (limit to : ℕ) (codes : List ℕ) : Type 0 where
  pub ground : Ground plan words stack
  pub grown : Grown plan words stack build to codes
  pub room : length codes ≤ plan.sizes.most
  pub limit_to : limit ≤ plan.sizes.order
  pub complete : (j : ℕ) → j < limit → block_code j build.last + 4 ^ j ≤ to

pub record PackCompleteDue (plan : Plan) (words stack : List ℕ) (build : Build) (limit : ℕ) : Type 0 where
  pub to : ℕ
  pub codes : List ℕ
  pub due : PackCompleteAt plan words stack build limit to codes

-- none of them has k elements on the stack
pub record CompletePacked (plan : Plan) (words stack : List ℕ) (build : Build) (limit to : ℕ) (codes : List ℕ) : Type 0 where
  pub grown : Grown plan words stack build to codes
  pub few : (i : ℕ) → i < limit → count_around i build.last grown.placed < plan.sizes.k

pub record PackCompleteDone (plan : Plan) (build : Build) (limit : ℕ) (words words' stack stack' : List ℕ) (r : Build) : Type 0 where
  pub beside : Beside plan.layout words words'
  pub stack_long : length stack' ≡ length stack
  pub last_is : r.last ≡ build.last
  pub right : (to : ℕ) (codes : List ℕ) → PackCompleteAt plan words stack build limit to codes → CompletePacked plan words' stack' r limit to codes

-- the first codes are built, and those to come are beyond them, on the panel, and have room
pub record Building (plan : Plan) (words stack : List ℕ) (build : Build) (done later : List ℕ) : Type 0 where
  pub ground : Ground plan words stack
  pub to : ℕ
  pub grown : Grown plan words stack build to done
  pub to_inside : to ≤ 4 ^ plan.sizes.order
  pub last_inside : build.last < 4 ^ plan.sizes.order
  pub last_below : build.last ≤ to
  pub ascending : Ascending to later
  pub on_panel : Every (OnPanel (panel_of plan.sizes)) later
  pub room : length done + length later ≤ plan.sizes.most

-- the next code
pub record AppendDue (plan : Plan) (words stack : List ℕ) (build : Build) (code : ℕ) : Type 0 where
  pub done : List ℕ
  pub later : List ℕ
  pub building : Building plan words stack build done (code ∷ later)

pub record AppendDone (plan : Plan) (build : Build) (code : ℕ) (words words' stack stack' : List ℕ) (r : Build) : Type 0 where
  pub beside : Beside plan.layout words words'
  pub stack_long : length stack' ≡ length stack
  pub right : (done later : List ℕ) → Building plan words stack build done (code ∷ later) → Building plan words' stack' r (done ++ (code ∷ [])) later
