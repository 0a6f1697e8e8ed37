-- What a command is for, by number, in the order of 000's Table 1: its names, shortened; the FIFOs are cleared, as 01
-- says.
use Rattle.std.specs.Prelude.{ℕ}

abbrev pub read_temporary_with_time : ℕ
read_temporary_with_time = 0

abbrev pub read_temporary : ℕ
read_temporary = 1

abbrev pub read_message_with_time : ℕ
read_message_with_time = 2

abbrev pub read_message : ℕ
read_message = 3

abbrev pub read_data_with_time : ℕ
read_data_with_time = 4

abbrev pub read_data : ℕ
read_data = 5

abbrev pub read_filter : ℕ
read_filter = 6

abbrev pub read_mask : ℕ
read_mask = 7

abbrev pub read_ctrl0 : ℕ
read_ctrl0 = 8

abbrev pub read_ctrl1 : ℕ
read_ctrl1 = 9

abbrev pub read_btr0 : ℕ
read_btr0 = 10

abbrev pub read_btr1 : ℕ
read_btr1 = 11

abbrev pub read_messtat : ℕ
read_messtat = 12

abbrev pub read_err : ℕ
read_err = 13

abbrev pub read_intf : ℕ
read_intf = 14

abbrev pub read_statf : ℕ
read_statf = 15

abbrev pub read_inte : ℕ
read_inte = 16

abbrev pub read_statfe : ℕ
read_statfe = 17

abbrev pub read_gpine : ℕ
read_gpine = 18

abbrev pub read_rec : ℕ
read_rec = 19

abbrev pub read_tec : ℕ
read_tec = 20

abbrev pub read_history : ℕ
read_history = 21

abbrev pub read_recessive_count : ℕ
read_recessive_count = 22

abbrev pub read_time : ℕ
read_time = 23

abbrev pub abort_transmission : ℕ
abort_transmission = 24

abbrev pub clear_transmit : ℕ
clear_transmit = 25

abbrev pub master_reset : ℕ
master_reset = 26

abbrev pub reset_time : ℕ
reset_time = 27

abbrev pub clear_receive : ℕ
clear_receive = 28

abbrev pub write_message : ℕ
write_message = 29

abbrev pub write_ctrl0 : ℕ
write_ctrl0 = 30

abbrev pub write_ctrl1 : ℕ
write_ctrl1 = 31

abbrev pub write_btr0 : ℕ
write_btr0 = 32

abbrev pub write_btr1 : ℕ
write_btr1 = 33

abbrev pub write_inte : ℕ
write_inte = 34

abbrev pub write_statfe : ℕ
write_statfe = 35

abbrev pub write_gpine : ℕ
write_gpine = 36

abbrev pub write_rec : ℕ
write_rec = 37

abbrev pub write_tec : ℕ
write_tec = 38

abbrev pub write_filter : ℕ
write_filter = 39

abbrev pub write_mask : ℕ
write_mask = 40
