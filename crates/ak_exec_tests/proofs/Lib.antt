mod InFour
