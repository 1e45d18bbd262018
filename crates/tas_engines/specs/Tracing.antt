-- What `tas trace` answers.
use Rattle.std.specs.Prelude.{◌≡◌, ℕ, true, false, List, length, Option, Result, Ok, Err}
use Rattle.vcs_inputs.specs.Cart.{is_cart_size}
use Rattle.vcs_machine.specs.TraceText.{trace_text}
use Rattle.tas_engines.specs.declared.fault.RunFault.{RunFault}
use Rattle.tas_engines.specs.declared.fault.RunFault.TheVariants.{Size, Memory}
use Rattle.tas_engines.specs.declared.fault.ToolFault.{ToolFault}
use Rattle.tas_engines.specs.Input.{IsReadWhole, StopsReading}
use Rattle.tas_engines.specs.Output.{Ends, EndsAfter}

-- why an image is no cartridge: a wrong size comes before being out of memory
abbrev pub IsImageFault : List ℕ → RunFault → Type 0
IsImageFault image (Size n) = (n ≡ length image) × (is_cart_size n ≡ false)
IsImageFault image Memory = is_cart_size (length image) ≡ true
IsImageFault image _ = ⊥

-- the trace of the image, or why it has none
abbrev pub IsTraceAnswer : List ℕ → ℕ → Result (List ℕ) RunFault → Type 0
IsTraceAnswer image n (Ok bytes) = (is_cart_size (length image) ≡ true) × (bytes ≡ trace_text image n)
IsTraceAnswer image n (Err e) = IsImageFault image e

-- `tas trace`, from what the reader has and the writer holds before to what they have and hold afterwards
abbrev pub IsTraceRun : ℕ → (input input' output output' : Option (List ℕ)) → Result (Unit {0}) ToolFault → Type 0
IsTraceRun n input input' output output' result =
    EndsAfter (StopsReading input input') (λ end. (image : List ℕ) × IsReadWhole input input' image × Ends (IsTraceAnswer image n) output output' end) output output' result
