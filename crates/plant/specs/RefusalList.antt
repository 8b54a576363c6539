-- The published list of refusals: the number of each, and the words that a person reads.
use Rattle.std.specs.Prelude.{ℕ, List, codes}
use Rattle.plant.specs.declared.refusals.Refusal.{Refusal}
use Rattle.plant.specs.declared.refusals.Refusal.TheVariants.{PointerOutOfRange, PointerNotBound, NumberOutsideLimits, PointerAlreadyBound, NoSuchElement, ClientOutOfRange, NotOpen, AlreadyOpen, AlreadyCommitting, NotCommitting, ThrownOut, NotThrownOut, NoLock, TooManyLocks, RankListTooShort, WriteBacksLeft, NoWriteBackLeft, BufferTooShort, NotScalable, BadImage, LineTooLong, NotAForm, NotOpenedOnce}

-- The number of each refusal, which never changes once it is published.
abbrev pub refusal_number : Refusal → ℕ
refusal_number PointerOutOfRange = 1
refusal_number PointerNotBound = 2
refusal_number NumberOutsideLimits = 3
refusal_number PointerAlreadyBound = 4
refusal_number NoSuchElement = 5
refusal_number ClientOutOfRange = 6
refusal_number NotOpen = 7
refusal_number AlreadyOpen = 8
refusal_number AlreadyCommitting = 9
refusal_number NotCommitting = 10
refusal_number ThrownOut = 11
refusal_number NotThrownOut = 12
refusal_number NoLock = 13
refusal_number TooManyLocks = 14
refusal_number RankListTooShort = 15
refusal_number WriteBacksLeft = 16
refusal_number NoWriteBackLeft = 17
refusal_number BufferTooShort = 18
refusal_number NotScalable = 19
refusal_number BadImage = 20
refusal_number LineTooLong = 21
refusal_number NotAForm = 22
refusal_number NotOpenedOnce = 26

-- What each refusal says to a person.
abbrev pub refusal_words : Refusal → List ℕ
refusal_words PointerOutOfRange = codes "no such pointer: the highest is 63"
refusal_words PointerNotBound = codes "the pointer is not bound to an element"
refusal_words NumberOutsideLimits = codes "the number lies outside the table's limits"
refusal_words PointerAlreadyBound = codes "the pointer is bound to an element already"
refusal_words NoSuchElement = codes "the table has no such element"
refusal_words ClientOutOfRange = codes "no such client: the highest is 15"
refusal_words NotOpen = codes "the client has no transaction open"
refusal_words AlreadyOpen = codes "the client has a transaction open already"
refusal_words AlreadyCommitting = codes "the client is committing already"
refusal_words NotCommitting = codes "the client is not committing yet"
refusal_words ThrownOut = codes "the client was thrown out and has to clear first"
refusal_words NotThrownOut = codes "the client was not thrown out"
refusal_words NoLock = codes "the client holds no such lock on the element"
refusal_words TooManyLocks = codes "the client holds 32 locks already"
refusal_words RankListTooShort = codes "the rank list has fewer than 16 entries"
refusal_words WriteBacksLeft = codes "changed elements are still to be written back"
refusal_words NoWriteBackLeft = codes "no changed element is left to write back"
refusal_words BufferTooShort = codes "the buffer is too short for the answer"
refusal_words NotScalable = codes "the ratio, the number of pairs or a base number does not allow scaling"
refusal_words BadImage = codes "the bytes are no plant image"
refusal_words LineTooLong = codes "the line has more than 120 bytes"
refusal_words NotAForm = codes "the line is not an allowed form"
refusal_words NotOpenedOnce = codes "the script opens a plant once, in its first line"
