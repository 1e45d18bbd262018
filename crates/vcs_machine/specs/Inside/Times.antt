-- The time on the bus, in CPU cycles, and the bounds of a frame. Only what is private cites this file.
use Rattle.std.specs.Prelude.{ℕ, ◌+◌, ◌-◌, ◌*◌, ◌^◌}
use Rattle.vcs_tia.specs.Units.{line_clocks}
use Rattle.vcs_machine.specs.Frame.{most_frame_lines}

-- how many CPU cycles a line takes
abbrev pub line_cycles : ℕ
line_cycles = 76

-- at this time a frame's lines are over
abbrev pub end_time : ℕ
end_time = 2 ^ 31

-- at this time its line 0 begins, 320 lines of 76 cycles earlier
abbrev pub first_time : ℕ
first_time = end_time - most_frame_lines * line_cycles

-- the offset of the bus's count from its time is at most this
abbrev pub most_offset : ℕ
most_offset = 2 ^ 30

-- a time of the bus is below this one, at which line 400 would begin
abbrev pub most_time : ℕ
most_time = first_time + 400 * line_cycles

-- a beam on the bus has passed fewer clocks than these
abbrev pub most_clocks : ℕ
most_clocks = 400 * line_clocks

-- how many colour clocks the lines have that a frame has at most
abbrev pub most_frame_clocks : ℕ
most_frame_clocks = most_frame_lines * line_clocks
