-- What a cartridge and a text make.
use Rattle.std.proofs.Common.{◌≡◌, ℕ, List, refl, sym, ap, ◌∙◌}
use Rattle.std.proofs.lemmas.Bool.{both_ways}
use Rattle.vcs_inputs.specs.Cart.{is_cart_size}
use Rattle.tas_movie.specs.Content.{MovieContent}
use Rattle.tas_movie.proofs.TwoTexts.{one_movie, read_no_error}
use Rattle.tas_engines.specs.declared.fault.RunFault.{RunFault}
use Rattle.tas_engines.specs.declared.fault.RunFault.TheVariants.{Write, Size, Text, NoFrame, Range, Halted, HaltedFrame, Script, Place, Long, Names as NoNames, NoPlace, NoEntry, Foreign, Memory}
use Rattle.tas_engines.specs.Movies.{IsMovieOf, IsMovieFault}

pub one_movie_read : (image bytes : List ℕ) (a b : MovieContent) → IsMovieOf image bytes a → IsMovieOf image bytes b → a ≡ b
one_movie_read image bytes a b is is' = one_movie bytes a b (is.cart ∙ sym is'.cart) is.most is'.most is.text is'.text

pub only_memory : (image bytes : List ℕ) (movie : MovieContent) (why : RunFault) → IsMovieOf image bytes movie → IsMovieFault image bytes why → why ≡ Memory
only_memory image bytes movie (Size n) is why = absurd (both_ways (is_cart_size n) why.1 (ap is_cart_size why.0 ∙ is.size))
only_memory image bytes movie (Text e) is why = absurd (read_no_error image bytes movie e is.cart is.most is.text why.1)
only_memory image bytes movie Memory is why = refl
only_memory image bytes movie (Write written) is why = absurd why
only_memory image bytes movie (NoFrame frame len) is why = absurd why
only_memory image bytes movie (Range from to len) is why = absurd why
only_memory image bytes movie (NoNames row kind) is why = absurd why
only_memory image bytes movie (Halted at opcode) is why = absurd why
only_memory image bytes movie (HaltedFrame frame at opcode) is why = absurd why
only_memory image bytes movie (Script line) is why = absurd why
only_memory image bytes movie (Place line) is why = absurd why
only_memory image bytes movie (Long line) is why = absurd why
only_memory image bytes movie NoPlace is why = absurd why
only_memory image bytes movie NoEntry is why = absurd why
only_memory image bytes movie Foreign is why = absurd why
