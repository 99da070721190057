-- What a run of the program reads and writes.
use Rattle.std.specs.Prelude.{◌≡◌, ◌⊎◌, ℕ, List, codes, Option, Some, None}
use Rattle.attr_ids.specs.declared.status.Status.{Status}
use Rattle.attr_ids.specs.declared.status.Status.TheVariants as status
use Rattle.attr_io.specs.Outside.{Rose, Stream, Wrote}
use Rattle.attr_io.specs.Transfer.{IsWhole, GaveExactly, WrotePart}
use Rattle.attr_make.specs.Made.{made}
use Rattle.command_line.specs.declared.asked.Asked.{Asked}
use Rattle.command_line.specs.Command.{IsAsked, IsRefused, usage_line}
use Rattle.accept.specs.declared.refusal.Refusal.{Refusal}
use Rattle.accept.specs.Causes.{IsCause}
use Rattle.attrib.specs.Annotated.{IsAnnotated}
use Rattle.attrib.specs.Lines.{IsLine}

abbrev pub read_line : List ℕ
read_line = codes "attrib: read failed\n"

abbrev pub write_line : List ℕ
write_line = codes "attrib: write failed\n"

abbrev pub memory_line : List ℕ
memory_line = codes "attrib: out of memory\n"

abbrev pub bytes_line : List ℕ
bytes_line = codes "attrib: too large: Bytes 67108865\n"

-- ---- lines on the stream of errors

-- where the line of a status can't be written, the status is a fault of writing, but that a want of memory stays one
abbrev pub fault_status : Status → Status
fault_status status.Done = status.WriteFault
fault_status status.Refused = status.WriteFault
fault_status status.Usage = status.WriteFault
fault_status status.ReadFault = status.WriteFault
fault_status status.WriteFault = status.WriteFault
fault_status status.NoMemory = status.NoMemory

-- the stream's count of faults rose, and the line is there in part
abbrev pub BreaksOff : Stream → Stream → List ℕ → Type 0
BreaksOff old new line = Rose old new × WrotePart old new line

-- the line is there, whole, or broken off by a fault of the stream
abbrev pub Says : Stream → Stream → List ℕ → Type 0
Says old new line = Wrote old new line ⊎ BreaksOff old new line

-- a status was answered with its line written, or its line broke off
abbrev pub EndsWith : Status → List ℕ → Status → Stream → Stream → Type 0
EndsWith wanted line answered old new =
    ((answered ≡ wanted) × Wrote old new line) ⊎ ((answered ≡ fault_status wanted) × BreaksOff old new line)

-- ---- what is read and printed

-- the text that a run is about: all that the source gave to its end, or a module that is made, for which nothing is read
abbrev pub IsInput : Option ℕ → Stream → Stream → List ℕ → Type 0
IsInput None source source' b = IsWhole source source' b
IsInput (Some count) source source' b = (source' ≡ source) × (b ≡ made count)

-- the one text that is printed where this is asked
abbrev pub IsPrinted : Asked → Stream → Stream → List ℕ → Type 0
IsPrinted asked source source' text = (b : List ℕ) × IsInput asked.generate source source' b × IsAnnotated asked.emit b text

-- the one text that is printed for these words
abbrev pub IsOutput : List (List ℕ) → Stream → Stream → List ℕ → Type 0
IsOutput words source source' text = (asked : Asked) × IsAsked words asked × IsPrinted asked source source' text

-- exactly the one text that is printed for these words and for what was read is out
abbrev pub Prints : List (List ℕ) → Stream → Stream → Stream → Stream → Type 0
Prints words source source' out out' = (text : List ℕ) × IsOutput words source source' text × Wrote out out' text

-- the text is refused by a cause that has this line
abbrev pub RefusesWith : List ℕ → List ℕ → Type 0
RefusesWith b line = (why : Refusal) × IsCause b why × IsLine b why line

-- the text of the run is refused with this line
abbrev pub ReadRefused : Option ℕ → Stream → Stream → List ℕ → Type 0
ReadRefused generate source source' line = (b : List ℕ) × IsInput generate source source' b × RefusesWith b line

-- one byte more was read than a text may have
abbrev pub ReadTooMuch : Option ℕ → Stream → Stream → Type 0
ReadTooMuch generate source source' = (generate ≡ None) × GaveExactly source source' 67108865

-- the line for a text of a run that is refused
abbrev pub IsTextLine : Option ℕ → Stream → Stream → List ℕ → Type 0
IsTextLine generate source source' line = ReadRefused generate source source' line ⊎ (ReadTooMuch generate source source' × (line ≡ bytes_line))

-- the line of a cause other than want of memory and a fault of writing, where words are taken: a fault of reading, or the text
abbrev pub IsRunLine : Option ℕ → Stream → Stream → List ℕ → Type 0
IsRunLine generate source source' line = (Rose source source' × (line ≡ read_line)) ⊎ IsTextLine generate source source' line

-- the line for a text that is refused, where these words are taken
abbrev pub IsRefusedBy : List (List ℕ) → Stream → Stream → List ℕ → Type 0
IsRefusedBy words source source' line = (asked : Asked) × IsAsked words asked × IsTextLine asked.generate source source' line

-- the line of a cause other than want of memory and a fault of writing: words that are no command, a fault of reading, what was read
abbrev pub IsCausedBy : List (List ℕ) → Stream → Stream → List ℕ → Type 0
IsCausedBy words source source' line =
    (IsRefused words × (line ≡ usage_line)) ⊎ ((Rose source source' × (line ≡ read_line)) ⊎ IsRefusedBy words source source' line)

-- the text of the run, where the source tells it or it is made, is of this kind
abbrev pub TellsText : Option ℕ → Option (List ℕ) → (List ℕ → Type 0) → Type 0
TellsText (Some count) bytes IsOne = IsOne (made count)
TellsText None None IsOne = ⊥
TellsText None (Some b) IsOne = IsOne b

-- ---- the status WriteFault

-- the output's count of faults rose, a text that was to be printed is out in part, and the line of that is said
abbrev pub FailsToPrint : (List ℕ → Type 0) → Stream → Stream → Stream → Stream → Type 0
FailsToPrint IsText out out' errs errs' = Rose out out' × ((text : List ℕ) × IsText text × WrotePart out out' text) × Says errs errs' write_line

-- the line of another cause broke off
abbrev pub FailsToSay : (List ℕ → Type 0) → Stream → Stream → Type 0
FailsToSay IsLine errs errs' = (line : List ℕ) × IsLine line × BreaksOff errs errs' line

-- ---- words that are refused

-- what is answered to them
abbrev pub IsOfWords : Status → Type 0
IsOfWords answered = (answered ≡ status.Usage) ⊎ ((answered ≡ status.WriteFault) ⊎ (answered ≡ status.NoMemory))
