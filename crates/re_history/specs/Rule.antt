-- The rule of the board's table, and what its steps tell. The table has two words: the length of the list, and the stop, or 0.
use Rattle.std.specs.Prelude.{ℕ, ◌+◌, ◌<◌, ◌≡◌, [], ◌∷◌, ◌++◌, length, Option, Some, None}
use mathlib.Core.Option.{some}
use mathlib.Core.Option as said
use mathlib.Core.List.{IsPrefix}
use lib.ListN.{get_elem?}
use Rattle.atomic_table.specs.Table.{State}
use Rattle.re_history.specs.declared.rule.Pen.{Pen}
use Rattle.re_history.specs.declared.rule.Chair.{Chair}
use Rattle.re_history.specs.declared.rule.View.{View}
use Rattle.re_history.specs.Items.{items_of, next_item, IsTold}

-- the word that stands for a stop
abbrev pub stop_word : Option ℕ → ℕ
stop_word None = 0
stop_word (Some at) = at

module _ {T : Type 0} where
  -- a view that knows nothing
  abbrev pub nobody : View T
  nobody = record { pen = None; chair = None }

  -- the view of who has this pen alone
  abbrev pub of_pen : Pen T → View T
  of_pen p = record { pen = Some p; chair = None }

  -- the view of who has this chair alone
  abbrev pub of_chair : Chair T → View T
  of_chair c = record { pen = None; chair = Some c }

  -- the view of a seat to which the writer lent its pen
  abbrev pub of_both : Pen T → Chair T → View T
  of_both p c = record { pen = Some p; chair = Some c }

  -- the pen of an empty list, with so many seats made
  abbrev pub empty_pen : ℕ → Pen T
  empty_pen made = record { items = []; stop = None; made = made }

  -- the pen of a new board
  abbrev pub first_pen : Pen T
  first_pen = empty_pen 0

  -- the chair of a new seat
  abbrev pub new_chair : ℕ → Chair T
  new_chair number = record { number = number; front = []; own = []; told = None }

  -- the pen, if there is one
  abbrev pub pen_or : Option (Pen T) → Pen T
  pen_or None = first_pen
  pen_or (Some p) = p

  -- the chair, if there is one
  abbrev pub chair_or : Option (Chair T) → Chair T
  chair_or None = new_chair 0
  chair_or (Some c) = c

  -- the pen in a view
  abbrev pub pen_of : View T → Pen T
  pen_of v = pen_or v.pen

  -- the chair in a view
  abbrev pub chair_of : View T → Chair T
  chair_of v = chair_or v.chair

  -- the pen after one more seat was made
  abbrev pub one_more : View T → View T
  one_more v = of_pen record { items = (pen_of v).items; stop = (pen_of v).stop; made = (pen_of v).made + 1 }

  -- the chair that is made next
  abbrev pub next_chair : View T → View T
  next_chair v = of_chair (new_chair (pen_of v).made)

  -- a view after its pen went away
  abbrev pub without_pen : View T → View T
  without_pen v = record { pen = None; chair = v.chair }

  -- the pen in a view, and nothing beside it
  abbrev pub pen_alone : View T → View T
  pen_alone v = record { pen = v.pen; chair = None }

  -- a view after it got the pen of another
  abbrev pub with_pen : View T → View T → View T
  with_pen v w = record { pen = w.pen; chair = v.chair }

  -- the pen and the chair after one more item of that chair
  abbrev pub counted : Pen T → Chair T → T → View T
  counted p c x =
      let items = p.items ++ next_item c.number c.own x ∷ [] in
      of_both record { items = items; stop = p.stop; made = p.made } record { number = c.number; front = items; own = c.own ++ next_item c.number c.own x ∷ []; told = c.told }

  -- the chair has seen the whole list, and the stop
  abbrev pub caught_up : Pen T → Chair T → View T
  caught_up p c = of_both p record { number = c.number; front = p.items; own = c.own; told = p.stop }

  -- a pen that was told the stop
  abbrev pub halted : ℕ → View T → View T
  halted at v = of_pen record { items = (pen_of v).items; stop = Some at; made = (pen_of v).made }

  -- what a chair knows stands in the list of the pen
  abbrev pub Stands : Pen T → Chair T → Type 0
  Stands p c = IsPrefix c.front p.items × (c.own ≡ items_of c.number p.items) × IsTold c.told p.stop

  -- counting the value that is said: the seat has one more item, and what it knew stood in the list
  abbrev pub Counts : said.Option T → View T → View T → Type 0
  Counts told v w = (x : T) → told ≡ some x → (w ≡ counted (pen_of v) (chair_of v) x) × Stands (pen_of v) (chair_of v)

  -- loading: the seat has seen all, and what it knew stood in the list
  abbrev pub Looks : View T → View T → Type 0
  Looks v w = (w ≡ caught_up (pen_of v) (chair_of v)) × Stands (pen_of v) (chair_of v)

  -- one place at most has the pen, which is the board's own
  abbrev pub FitsPen : ℕ → Pen T → ℕ → View T → Type 0
  FitsPen home pen by v = (p : Pen T) → v.pen ≡ Some p → (by ≡ home) × (p ≡ pen)

  -- each number has one place, and what is known there stands in the list
  abbrev pub FitsChair : (ℕ → ℕ) → Pen T → ℕ → View T → Type 0
  FitsChair places pen by v = (c : Chair T) → v.chair ≡ Some c → (by ≡ places c.number) × (c.number < pen.made) × Stands pen c

  -- what the rule says of the view at one place
  abbrev pub Fits : ℕ → (ℕ → ℕ) → Pen T → ℕ → View T → Type 0
  Fits home places pen by v = FitsPen home pen by v × FitsChair places pen by v

  -- the rule: the words are the length of the list and the stop of one pen, and each view fits that pen
  pub record Keeps (s : State T (View T)) : Type 0 where
    pub home : ℕ
    pub places : ℕ → ℕ
    pub pen : Pen T
    pub words : s.words ≡ length pen.items ∷ stop_word pen.stop ∷ []
    pub each : (by : ℕ) (v : View T) → get_elem? s.views by ≡ some v → Fits home places pen by v
