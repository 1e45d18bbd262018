-- What a file was that may have been opened.
use Rattle.std.specs.Prelude.{◌≡◌, ℕ, List, Option, None, Some, ◌⊎◌}
use Rattle.tas_engines.specs.declared.fault.ReadFault.{ReadFault}
use Rattle.tas_verify.specs.declared.outcome.Role.{Role}
use Rattle.tas_verify.specs.declared.outcome.Outcome.{Outcome}
use Rattle.tas_verify.specs.declared.outcome.Outcome.TheVariants.{NotFound, Unread}
use Rattle.tas_verify.specs.Rows.{IsRead, IsUnread}

-- it was opened, and read whole
abbrev pub IsFileRead : {F : Type 0} → (F → Option (List ℕ)) → Option F → List ℕ → Type 0
IsFileRead {F} remaining file bytes = (opened : F) × (file ≡ Some opened) × IsRead (remaining opened) bytes

-- it wasn't opened, or reading it stopped
abbrev pub IsFileMissed : {F : Type 0} → (F → Option (List ℕ)) → Option F → Role → Outcome → Type 0
IsFileMissed {F} remaining file role outcome =
    ((file ≡ None) × (outcome ≡ NotFound role)) ⊎ ((opened : F) × (fault : ReadFault) × (file ≡ Some opened) × IsUnread (remaining opened) fault × (outcome ≡ Unread role fault))
