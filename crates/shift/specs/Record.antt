-- What the record of a log makes of its locks and marks, and of an event.
use Rattle.std.specs.Prelude.{◌≡◌, IfSome, IfNone, ℤ, ℕ, Bool, if◌then◌else◌, false, true, not, ◌&&◌, ◌||◌, ◌==◌, List, map, filter, Option, Some, None}
use Rattle.std.specs.declared.cmp.Ordering.{Ordering}
use Rattle.std.specs.Ordering.{nat_cmp, ordering_then}
use Rattle.std.specs.List.{list_any}
use Rattle.std.specs.BTreeMap as tree
use Rattle.std.specs.BTreeSet as set
use Rattle.std.specs.Map.{keys_of}
use Rattle.plant.specs.declared.tables.Element.{Element}
use Rattle.plant.specs.declared.refusals.Refusal.{Refusal}
use Rattle.ranks.specs.declared.Client.{Client}
use Rattle.ranks.specs.declared.Grade.{Grade}
use Rattle.rules.specs.State.{is_write}
use Rattle.rules.specs.Locking.{kinds_conflict}
use Rattle.rules.specs.declared.LockKind.{LockKind}
use Rattle.rules.specs.declared.LockKind.TheVariants.{Read, Write}
use Rattle.rules.specs.declared.Pointer.{Pointer}
use Rattle.rules.specs.declared.Call.{Call}
use Rattle.rules.specs.declared.Call.TheVariants.{Begin, Lock, End, GiveUp, Bind, Remove, HardWrite}
use Rattle.rules.specs.declared.Answer.TheVariants.{Done, Wait, Lost, Refused}
use Rattle.shift.specs.declared.record.Event.{Event}
use Rattle.shift.specs.declared.record.Holding.{Holding}
use Rattle.shift.specs.declared.record.Record.{Record}

-- Clients, elements and pointers go by their numbers.
abbrev pub client_cmp : Client → Client → Ordering
client_cmp a b = nat_cmp a.0 b.0

abbrev pub element_cmp : Element → Element → Ordering
element_cmp a b = nat_cmp a.0 b.0

abbrev pub pointer_cmp : Pointer → Pointer → Ordering
pointer_cmp a b = nat_cmp a.0 b.0

-- Holdings go by their clients, and those of one client by their elements.
abbrev pub holding_cmp : Holding → Holding → Ordering
holding_cmp a b = ordering_then (client_cmp a.client b.client) (element_cmp a.element b.element)

-- A lock on the element.
abbrev pub is_on : Element → Holding → Bool
is_on element h = h.element.0 == element.0

-- Whether the element is locked; whether it is marked.
abbrev pub is_locked : Record → Element → Bool
is_locked r element = list_any (is_on element) (tree.keys r.holdings)

abbrev pub is_marked : Record → Element → Bool
is_marked r element = set.contains element_cmp r.marked element

-- The kind in which the client holds the element, if it does.
abbrev pub kind_of : Record → Holding → Option LockKind
kind_of r holding = tree.get holding_cmp r.holdings holding

-- A kind that is held covers a request if it is the same, or for writing.
abbrev pub covers : Option LockKind → LockKind → Bool
covers None asked = false
covers (Some held) Read = true
covers (Some held) Write = is_write held

-- Whether the client's own lock covers what is granted to it.
abbrev pub is_covered : Record → Holding → LockKind → Bool
is_covered r granted kind = covers (kind_of r granted) kind

-- Whether a lock that is granted over a mark throws the client of this one out.
abbrev pub conflicts : Bool → Holding → LockKind → Holding × LockKind → Bool
conflicts marked granted kind lock =
    (lock.0.element.0 == granted.element.0 && not (lock.0.client.0 == granted.client.0))
    && kinds_conflict marked kind lock.1

-- The clients that a granted lock throws out, and the locks that it leaves.
abbrev pub losers : Record → Holding → LockKind → List Client
losers r granted kind =
    map (λ lock. lock.0.client)
    (filter (conflicts (is_marked r granted.element) granted kind) r.holdings.entries)

abbrev pub left_by : Record → Holding → LockKind → List (Holding × LockKind)
left_by r granted kind =
    filter (λ lock. not (list_any (λ c. c.0 == lock.0.client.0) (losers r granted kind)))
    r.holdings.entries

-- The locks after a grant: none goes or comes where the client's own covers it.
abbrev pub granted_to : Record → Holding → LockKind → List (Holding × LockKind)
granted_to r granted kind =
    if is_covered r granted kind then r.holdings.entries
    else tree.insert_entry holding_cmp (left_by r granted kind) granted kind

-- Whether the element's mark stays at a grant: where the client's own lock covers it, or a lock on it is left.
abbrev pub mark_stays : Record → Holding → LockKind → Bool
mark_stays r granted kind =
    is_covered r granted kind
    || list_any (is_on granted.element) (keys_of (left_by r granted kind))

-- The locks without those of a client.
abbrev pub without : Client → Record → List (Holding × LockKind)
without client r = filter (λ lock. not (lock.0.client.0 == client.0)) r.holdings.entries

-- A transaction of the client begins at the moment.
pub record Begins (old : Record) (client : Client) (moment : ℕ) (new : Record) : Type 0 where
  pub begun : tree.Updates client_cmp old.begun new.begun client (Some moment)
  pub others : new ≡ record old { begun = new.begun }

-- The client holds nothing any more.
pub record Leaves (old : Record) (client : Client) (new : Record) : Type 0 where
  pub holdings : new.holdings.entries ≡ without client old
  pub others : new ≡ record old { holdings = new.holdings }

-- A lock is granted.
pub record Grants (old : Record) (granted : Holding) (kind : LockKind) (new : Record) : Type 0 where
  pub holdings : new.holdings.entries ≡ granted_to old granted kind
  pub mark_kept : mark_stays old granted kind ≡ true → set.IsUnchanged old.marked new.marked
  pub mark_gone : mark_stays old granted kind ≡ false
      → set.Updates element_cmp old.marked new.marked granted.element false
  pub others : new ≡ record old { holdings = new.holdings; marked = new.marked }

-- The pointer is tied to an element, or untied.
pub record Ties (old : Record) (pointer : Pointer) (tie : Option Element) (new : Record) : Type 0 where
  pub ties : tree.Updates pointer_cmp old.ties new.ties pointer tie
  pub others : new ≡ record old { ties = new.ties }

-- The element that the pointer is tied to, if it is and if the element is locked, is marked.
pub record Marks (old : Record) (pointer : Pointer) (new : Record) : Type 0 where
  pub locked : IfSome (tree.get pointer_cmp old.ties pointer)
      (λ e. is_locked old e ≡ true → set.Updates element_cmp old.marked new.marked e true)
  pub free : IfSome (tree.get pointer_cmp old.ties pointer)
      (λ e. is_locked old e ≡ false → set.IsUnchanged old.marked new.marked)
  pub untied : IfNone (tree.get pointer_cmp old.ties pointer) (set.IsUnchanged old.marked new.marked)
  pub others : new ≡ record old { marked = new.marked }

-- Whether a call that is done can change the record.
abbrev pub is_noted : Call Grade → Bool
is_noted (Begin c rank) = true
is_noted (Lock c kind e) = true
is_noted (End c) = true
is_noted (GiveUp c) = true
is_noted (Bind p e) = true
is_noted (Remove p) = true
is_noted (HardWrite p v) = true
is_noted _ = false

-- What an event makes of the record.
pub record Notes (old : Record) (event : Event) (new : Record) : Type 0 where
  pub begun : (c : Client) (rank : Grade) → event.call ≡ Begin c rank
      → event.answer ≡ Done → Begins old c event.moment new
  pub granted : (c : Client) (kind : LockKind) (e : Element) → event.call ≡ Lock c kind e
      → event.answer ≡ Done → Grants old (record { client = c; element = e }) kind new
  pub lost : (c : Client) (kind : LockKind) (e : Element) → event.call ≡ Lock c kind e
      → event.answer ≡ Lost → Leaves old c new
  pub ended : (c : Client) → event.call ≡ End c → event.answer ≡ Done → Leaves old c new
  pub given_up : (c : Client) → event.call ≡ GiveUp c → event.answer ≡ Done → Leaves old c new
  pub bound : (p : Pointer) (e : Element) → event.call ≡ Bind p e
      → event.answer ≡ Done → Ties old p (Some e) new
  pub removed : (p : Pointer) → event.call ≡ Remove p → event.answer ≡ Done → Ties old p None new
  pub written : (p : Pointer) (v : ℤ) → event.call ≡ HardWrite p v
      → event.answer ≡ Done → Marks old p new
  pub not_noted : is_noted event.call ≡ false → new ≡ old
  pub waiting : event.answer ≡ Wait → new ≡ old
  pub refused : (r : Refusal) → event.answer ≡ Refused r → new ≡ old
